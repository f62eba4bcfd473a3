-- What the statements of a text give: gates on the qubits of its registers.
use Rattle.std.specs.Prelude.{◌≡◌, ℕ, ◌+◌, ◌==◌, nat_lt, Bool, true, false, not, ◌&&◌, ◌||◌, List, [], ◌∷◌, ◌++◌, length, codes, bytes_eq, if◌then◌else◌, is_some, Option, Some, None, Result, Ok, Err, is_ok, IsTrue}
use Rattle.std.specs.List.{slice_split}
use Rattle.rv_text.specs.Decimal.{decimal_value, is_decimal}
use Rattle.rv_gate.specs.declared.word.TheConstants.{MOST_LINES}
use Rattle.rv_net.specs.Op.{Network}
use Rattle.rv_angles.specs.Form.{form_of}
use Rattle.rv_angles.specs.Standard.{qubits_of}
use Rattle.rv_qasm.specs.Tokens.{is_identifier}
use Rattle.rv_import.specs.Calls.{IsExactNet, qubits_in}
use Rattle.rv_import.specs.Lexer.{tokens_of}
use Rattle.rv_import.specs.Registers.{Register, register_of}
use Rattle.rv_import.specs.Statement.{gate_call, token_at}
use Rattle.rv_import.specs.declared.call.Call as call
use Rattle.rv_import.specs.declared.call.Call.TheVariants.{Plain, Standard}
use Rattle.rv_import.specs.declared.fault.TextFault.{TextFault}
use Rattle.rv_import.specs.declared.fault.TextFault.TheVariants.{Statement, Call, Mem}
use Rattle.rv_import.specs.declared.so_far.Kind.{Kind}
use Rattle.rv_import.specs.declared.so_far.Kind.TheVariants.{Include, Qreg, PassedOver, Measure, Gate}

-- what statements have given so far
pub record SoFar : Type 0 where
  pub has_version : Bool
  pub registers : List Register
  -- the number of all qubits
  pub size : ℕ
  pub is_measured : Bool
  pub calls : List call.Call

abbrev pub nothing_so_far : SoFar
nothing_so_far = record { has_version = false; registers = []; size = 0; is_measured = false; calls = [] }

abbrev pub read_if : Bool → SoFar → Option SoFar
read_if is_right s = if is_right then Some s else None

-- ---- statements

-- OPENQASM 2.0
abbrev pub is_version : List (List ℕ) → Bool
is_version tokens =
    length tokens == 2 && bytes_eq (token_at tokens 0) (codes "OPENQASM") && bytes_eq (token_at tokens 1) (codes "2.0")

-- include "qelib1.inc"
abbrev pub is_library : List (List ℕ) → Bool
is_library tokens = length tokens == 2 && bytes_eq (token_at tokens 1) (codes "\"qelib1.inc\"")

-- qreg NAME [ N ]
abbrev pub is_declaration : List (List ℕ) → Bool
is_declaration tokens =
    length tokens == 5 && is_identifier (token_at tokens 1)
    && bytes_eq (token_at tokens 2) (codes "[") && bytes_eq (token_at tokens 4) (codes "]")

-- 1 to 64 qubits
abbrev pub size_of : List ℕ → Option ℕ
size_of digits =
    if is_decimal digits && nat_lt 0 (decimal_value digits) && nat_lt (decimal_value digits) (MOST_LINES + 1)
    then Some (decimal_value digits) else None

-- a register of a new name, with at most 64 qubits in all
abbrev pub declared : SoFar → List ℕ → Option ℕ → Option SoFar
declared s name None = None
declared s name (Some size) =
    if is_some (register_of name s.registers) || nat_lt MOST_LINES (s.size + size) then None
    else Some (record s {
      registers = s.registers ++ record { name = name; first = s.size; size = size } ∷ [];
      size = s.size + size;
    })

abbrev pub qreg_read : SoFar → List (List ℕ) → Option SoFar
qreg_read s tokens =
    if is_declaration tokens then declared s (token_at tokens 1) (size_of (token_at tokens 3)) else None

-- a gate that has an exact form, and as many qubits as it is on
abbrev pub is_possible : call.Call → Bool
is_possible (Plain op) = true
is_possible (Standard gate qubits) = is_some (form_of gate) && length (qubits_in qubits) == qubits_of gate

-- a possible gate, and none after a measurement
abbrev pub with_call : SoFar → Option call.Call → Option SoFar
with_call s None = None
with_call s (Some call) = if s.is_measured || not (is_possible call) then None else Some (record s { calls = s.calls ++ call ∷ [] })

abbrev pub kind_of : List ℕ → Kind
kind_of name =
    if bytes_eq name (codes "include") then Include
    else (if bytes_eq name (codes "qreg") then Qreg
    else (if bytes_eq name (codes "creg") then PassedOver
    else (if bytes_eq name (codes "barrier") then PassedOver
    else (if bytes_eq name (codes "measure") then Measure
    else Gate))))

-- A classical register and a barrier change nothing.
abbrev pub read_as : Kind → SoFar → List (List ℕ) → Option SoFar
read_as Include s tokens = read_if (is_library tokens) s
read_as Qreg s tokens = qreg_read s tokens
read_as PassedOver s tokens = Some s
read_as Measure s tokens = Some (record s { is_measured = true })
read_as Gate s tokens = with_call s (gate_call s.registers tokens)

-- a statement without its `;`: the version first
abbrev pub statement_read : SoFar → List (List ℕ) → Option SoFar
statement_read s tokens =
    if length tokens == 0 then None
    else (if s.has_version then read_as (kind_of (token_at tokens 0)) s tokens
    else read_if (is_version tokens) (record s { has_version = true }))

-- ---- a text

abbrev pub is_end : List ℕ → Bool
is_end token = bytes_eq token (codes ";")

-- at the end of a text: nothing stands after the last `;`, and there was a register
abbrev pub at_end : ℕ → SoFar → List (List ℕ) → Result SoFar ℕ
at_end number s rest = if length rest == 0 && nat_lt 0 s.size then Ok s else Err number

abbrev pub and_then : ℕ → Option SoFar → (SoFar → Result SoFar ℕ) → Result SoFar ℕ
and_then number None next = Err number
and_then number (Some s) next = next s

-- the statements from a number on, and what stands after the last `;`: what they give, or the number of the first that
-- breaks a rule
unfoldable pub parts_read : ℕ → SoFar → List (List (List ℕ)) → Result SoFar ℕ
parts_read number s [] = Err number
parts_read number s (part ∷ parts) =
    if length parts == 0 then at_end number s part
    else and_then number (statement_read s part) (λ next. parts_read (number + 1) next parts)

abbrev pub tokens_read : List (List ℕ) → Result SoFar ℕ
tokens_read tokens = parts_read 1 nothing_so_far (slice_split is_end tokens)

-- what a text denotes
abbrev pub read : List ℕ → Result SoFar ℕ
read text = tokens_read (tokens_of text)

-- A statement is to blame only if it is the first that breaks a rule, and a gate only where none does.
abbrev pub IsFault : Result SoFar ℕ → TextFault → Type 0
IsFault reading (Statement number) = reading ≡ Err number
IsFault reading (Call fault) = IsTrue (is_ok reading)
IsFault reading Mem = Unit {0}

-- A network is of a text: the text denotes gates on so many qubits, and it has exactly their amplitudes.
pub record IsNetOf (text : List ℕ) (net : Network) : Type 0 where
  pub so_far : SoFar
  pub is : read text ≡ Ok so_far
  pub exact : IsExactNet so_far.size so_far.calls net
