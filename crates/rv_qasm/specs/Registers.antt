-- Registers, and what operands name in them. Qubits are numbered in the order of their declaration.
use Rattle.std.specs.Prelude.{ℕ, ◌+◌, nat_lt, Bool, true, false, not, ◌&&◌, List, [], ◌∷◌, sum_by, codes, bytes_eq, if◌then◌else◌, is_some, Option, Some, None, Result, Ok}
use Rattle.std.specs.List.{slice_split}
use Rattle.rv_text.specs.Decimal.{is_count, is_decimal, decimal_value}
use Rattle.rv_reader.specs.Rules.{◌>>=◌, broken, found_or}
use Rattle.rv_qasm.specs.Tokens.{is_identifier}
use Rattle.rv_qasm.specs.declared.code.TheConstants as code

pub record Register : Type 0 where
  pub name : List ℕ
  pub size : ℕ

abbrev pub size_of_all : List Register → ℕ
size_of_all registers = sum_by (λ register. register.size) registers

-- the size of the register of this name
abbrev pub declared_size : List ℕ → List Register → Option ℕ
declared_size name [] = None
declared_size name (register ∷ registers) =
    if bytes_eq name register.name then Some register.size else declared_size name registers

abbrev pub is_among : List ℕ → List Register → Bool
is_among name registers = is_some (declared_size name registers)

-- the tokens of `NAME[N]` but N
abbrev pub is_indexed : List ℕ → List ℕ → List ℕ → Bool
is_indexed name before after = is_identifier name && bytes_eq before (codes "[") && bytes_eq after (codes "]")

-- `NAME[N]`
abbrev pub declaration_of : List (List ℕ) → Option Register
declaration_of (name ∷ before ∷ size ∷ after ∷ []) =
    if is_indexed name before after && is_count size
    then Some (record { name = name; size = decimal_value size }) else None
declaration_of _ = None

-- ---- operands

-- a whole register, or one place of it by its digits
pub record RegisterOperand : Type 0 where
  pub name : List ℕ
  pub place : Option (List ℕ)

-- `NAME` or `NAME[N]`
abbrev pub register_operand : List (List ℕ) → Option RegisterOperand
register_operand (name ∷ []) = if is_identifier name then Some (record { name = name; place = None }) else None
register_operand (name ∷ before ∷ place ∷ after ∷ []) =
    if is_indexed name before after && is_decimal place then Some (record { name = name; place = Some place }) else None
register_operand _ = None

abbrev pub with_first_operand : Option RegisterOperand → Option (List RegisterOperand) → Option (List RegisterOperand)
with_first_operand (Some operand) (Some operands) = Some (operand ∷ operands)
with_first_operand (Some operand) None = None
with_first_operand None others = None

abbrev pub operands_in : List (List (List ℕ)) → Option (List RegisterOperand)
operands_in [] = Some []
operands_in (part ∷ parts) = with_first_operand (register_operand part) (operands_in parts)

abbrev pub is_token : List ℕ → List ℕ → Bool
is_token mark token = bytes_eq token mark

-- no operand, or operands with commas between them
abbrev pub operands_of : List (List ℕ) → Option (List RegisterOperand)
operands_of [] = Some []
operands_of (token ∷ tokens) = operands_in (slice_split (is_token (codes ",")) (token ∷ tokens))

-- ---- what an operand names

-- these digits are the number of a place in a register of this size
abbrev pub is_place : List ℕ → ℕ → Bool
is_place digits size = is_decimal digits && nat_lt (decimal_value digits) size

abbrev pub in_register : {A : Type 0} → List ℕ → ℕ → A → Result A ℕ
in_register digits size x = broken (not (is_place digits size)) code.INDEX_OUT_OF_RANGE (Ok x)

-- qubits
pub record QubitRange : Type 0 where
  pub first : ℕ
  pub count : ℕ
  -- a whole register was named
  pub is_whole : Bool

-- the register of this name, where so many qubits stand before these registers
abbrev pub register_at : ℕ → List ℕ → List Register → Option QubitRange
register_at first name [] = None
register_at first name (register ∷ registers) =
    if bytes_eq name register.name then Some (record { first = first; count = register.size; is_whole = true })
    else register_at (first + register.size) name registers

abbrev pub qubits_in : QubitRange → Option (List ℕ) → Result QubitRange ℕ
qubits_in register None = Ok register
qubits_in register (Some place) =
    in_register place register.count
    (record { first = register.first + decimal_value place; count = 1; is_whole = false })

-- the qubits that an operand names, or the code of its fault
abbrev pub qubits_of : List Register → RegisterOperand → Result QubitRange ℕ
qubits_of registers operand =
    found_or code.UNKNOWN_REGISTER (register_at 0 operand.name registers)
    >>= λ register. qubits_in register operand.place

-- what operands name, or the code of the first fault
abbrev pub all_qubits_of : List Register → List RegisterOperand → Result (List QubitRange) ℕ
all_qubits_of registers [] = Ok []
all_qubits_of registers (operand ∷ operands) =
    qubits_of registers operand >>= λ first. all_qubits_of registers operands >>= λ others. Ok (first ∷ others)

abbrev pub count_in : ℕ → Option (List ℕ) → Result ℕ ℕ
count_in size None = Ok size
count_in size (Some place) = in_register place size 1

-- how many classical bits an operand names, or the code of its fault
abbrev pub classical_bits : List Register → RegisterOperand → Result ℕ ℕ
classical_bits registers operand =
    found_or code.UNKNOWN_REGISTER (declared_size operand.name registers) >>= λ size. count_in size operand.place
