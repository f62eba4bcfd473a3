-- The statements of what is written of a network, and what each gives.
use Rattle.std.proofs.Common.{◌≡◌, ◌≢◌, ℕ, ◌+◌, ◌<◌, ◌^◌, Bool, true, false, List, [], ◌∷◌, ◌++◌, length, nat_lt, refl, arith, ap, subst, sym, ◌∙◌, decimal, codes, ne_eqb, append_assoc, append-nil, Some, Ok}
use Rattle.std.specs.Prelude.{bytes_eq}
use Rattle.std.specs.List.{list_any}
use Rattle.std.specs.Int.{IsInRange}
use Rattle.std.proofs.lemmas.Bool.{cond-true, lt-ltb}
use Rattle.std.proofs.lemmas.Nat.Bits.{bit_at-zero}
use Rattle.rv_text.specs.Decimal.{is_decimal, decimal_value}
use Rattle.rv_text.proofs.inside.Decimal.{is_decimal-decimal, decimal_value-decimal, digit_range}
use Rattle.rv_net.specs.declared.net.TheConstants.{MOST_OPS}
use Rattle.rv_net.specs.declared.op.Op.{Op}
use Rattle.rv_qasm.specs.Tokens.{TokenOnLine, is_open_string}
use Rattle.rv_qasm.specs.Statements.{ended_statements, statement_of, unended_tokens}
use Rattle.rv_qasm.specs.Gates.{gate_size, op_on}
use Rattle.rv_qasm.specs.Registers.{RegisterOperand, operands_of, qubits_of}
use Rattle.rv_qasm.specs.Rules.{SoFar, body_read, gate_read, is_measured, op_read, statement_read}
use Rattle.rv_qasm.specs.inside.Written.{IsReadyForGate}

-- ---- where statements end

abbrev pub is_semicolon : TokenOnLine → Bool
is_semicolon t = bytes_eq t.bytes (codes ";")

abbrev pub HasNone : List TokenOnLine → Type 0
HasNone [] = Unit {0}
HasNone (t ∷ tokens) = (is_semicolon t ≡ false) × HasNone tokens

pub ended-more : (begun tokens : List TokenOnLine) (semicolon : TokenOnLine) (rest : List TokenOnLine) → HasNone tokens → is_semicolon semicolon ≡ true
    → ended_statements begun (tokens ++ (semicolon ∷ rest)) ≡ statement_of (begun ++ tokens) semicolon.line ∷ ended_statements [] rest
unfolding ended_statements
ended-more begun [] semicolon rest none is = rw (is, append-nil begun) refl
ended-more begun (t ∷ tokens) semicolon rest none is =
    rw (none.0) (ended-more (begun ++ t ∷ []) tokens semicolon rest none.1 is ∙ ap (λ (all : List TokenOnLine). statement_of all semicolon.line ∷ ended_statements [] rest) (append_assoc begun (t ∷ []) tokens))

pub unended-more : (begun tokens : List TokenOnLine) (semicolon : TokenOnLine) (rest : List TokenOnLine) → HasNone tokens → is_semicolon semicolon ≡ true
    → unended_tokens begun (tokens ++ (semicolon ∷ rest)) ≡ unended_tokens [] rest
unfolding unended_tokens
unended-more begun [] semicolon rest none is = rw is refl
unended-more begun (t ∷ tokens) semicolon rest none is = rw (none.0) (unended-more (begun ++ t ∷ []) tokens semicolon rest none.1 is)

-- ---- numbers as tokens

-- what is asked of a token that is a number
pub record IsWritten (digits : List ℕ) (n : ℕ) : Type 0 where
  pub decimal : is_decimal digits ≡ true
  pub value : decimal_value digits ≡ n
  pub no_comma : bytes_eq digits (codes ",") ≡ false
  pub no_semicolon : bytes_eq digits (codes ";") ≡ false
  pub closed : is_open_string digits ≡ false

-- its first byte is a digit
first_digit : (d : ℕ) (digits : List ℕ) → is_decimal (d ∷ digits) ≡ true → IsInRange 48 57 d
first_digit d digits h = grind (arith, nat_lt, digit_range)

apart : (digits : List ℕ) (c : ℕ) → is_decimal digits ≡ true → (IsInRange 48 57 c → ⊥) → bytes_eq digits (c ∷ []) ≡ false
apart [] c h other = refl
apart (d ∷ digits) c h other = rw (ne_eqb d c (λ e. other (subst (IsInRange 48 57) e (first_digit d digits h)))) refl

no_string : (digits : List ℕ) → is_decimal digits ≡ true → is_open_string digits ≡ false
no_string [] h = refl
no_string (d ∷ digits) h = let r = first_digit d digits h in rw (ne_eqb d 34 (λ e. omega (arith, e, r.0))) refl

pub written : (n : ℕ) → n < 2 ^ 64 → IsWritten (decimal n) n
written n small = grind (arith, is_decimal-decimal, decimal, decimal_value-decimal, apart, no_string)

-- ---- operands

abbrev pub words_of : List ℕ → List (List ℕ)
words_of digits = codes "q" ∷ codes "[" ∷ digits ∷ codes "]" ∷ []

abbrev pub operand : List ℕ → RegisterOperand
operand digits = record { name = codes "q"; place = Some digits }

one_operand : (d : List ℕ) (a : ℕ) → IsWritten d a → operands_of (words_of d) ≡ Some (operand d ∷ [])
one_operand d a w = rw (w.no_comma, w.decimal) refl

two_operands : (d e : List ℕ) (a b : ℕ) → IsWritten d a → IsWritten e b → operands_of (words_of d ++ (codes "," ∷ words_of e)) ≡ Some (operand d ∷ operand e ∷ [])
two_operands d e a b w v = rw (w.no_comma, v.no_comma, w.decimal, v.decimal) refl

three_operands : (d e f : List ℕ) (a b c : ℕ) → IsWritten d a → IsWritten e b → IsWritten f c
    → operands_of (words_of d ++ (codes "," ∷ (words_of e ++ (codes "," ∷ words_of f)))) ≡ Some (operand d ∷ operand e ∷ operand f ∷ [])
three_operands d e f a b c w v u = rw (w.no_comma, v.no_comma, u.no_comma, w.decimal, v.decimal, u.decimal) refl

-- ---- a gate

-- a gate of so many operands
pub record IsGate (name : List ℕ) (size : ℕ) : Type 0 where
  pub body : (so_far : SoFar) (tokens : List (List ℕ)) → body_read so_far (name ∷ tokens) ≡ gate_read so_far name tokens
  pub size_is : gate_size name ≡ Some size
  pub closed : is_open_string name ≡ false

abbrev pub with_ops : SoFar → List Op → SoFar
with_ops so_far ops = record so_far { ops = so_far.ops ++ ops }

gate_body : (so_far : SoFar) (n : ℕ) (name : List ℕ) (size : ℕ) (tokens : List (List ℕ)) → IsReadyForGate so_far n → IsGate name size → list_any is_open_string tokens ≡ false
    → statement_read so_far (name ∷ tokens) ≡ gate_read so_far name tokens
unfolding statement_read
gate_body so_far n name size tokens ready gate closed =
    rw (gate.closed, closed) (cond-true so_far.has_version _ _ ready.version ∙ gate.body so_far tokens)

pub zero-add : (m : ℕ) → 0 + m ≡ m
zero-add m = omega arith

-- one qubit, by its digits
place_read : (so_far : SoFar) (n : ℕ) (d : List ℕ) (a : ℕ) → IsReadyForGate so_far n → IsWritten d a → a < n
    → qubits_of so_far.quantum (operand d) ≡ Ok (record { first = a; count = 1; is_whole = false })
place_read so_far n d a ready w low = rw (ready.register, w.decimal, w.value, lt-ltb a n low, zero-add a) refl

is_fresh : (so_far : SoFar) (n a : ℕ) → IsReadyForGate so_far n → is_measured so_far a ≡ false
is_fresh so_far n a ready = rw (ready.unmeasured, bit_at-zero a) refl

one_op : (so_far : SoFar) (n a : ℕ) (name : List ℕ) → IsReadyForGate so_far n → op_read name so_far (a ∷ []) ≡ Ok (with_ops so_far (op_on name (a ∷ [])))
one_op so_far n a name ready = rw (is_fresh so_far n a ready, lt-ltb (length so_far.ops) MOST_OPS ready.room) refl

two_ops : (so_far : SoFar) (n a b : ℕ) (name : List ℕ) → IsReadyForGate so_far n → a ≢ b → op_read name so_far (a ∷ b ∷ []) ≡ Ok (with_ops so_far (op_on name (a ∷ b ∷ [])))
two_ops so_far n a b name ready ab =
    rw (ne_eqb b a (λ e. ab (sym e)), is_fresh so_far n a ready, is_fresh so_far n b ready, lt-ltb (length so_far.ops) MOST_OPS ready.room) refl

three_ops : (so_far : SoFar) (n a b c : ℕ) (name : List ℕ) → IsReadyForGate so_far n → a ≢ b → a ≢ c → b ≢ c
    → op_read name so_far (a ∷ b ∷ c ∷ []) ≡ Ok (with_ops so_far (op_on name (a ∷ b ∷ c ∷ [])))
three_ops so_far n a b c name ready ab ac bc = grind arith

pub one-read : (so_far : SoFar) (n : ℕ) (name d : List ℕ) (a : ℕ) → IsReadyForGate so_far n → IsGate name 1 → IsWritten d a → a < n
    → statement_read so_far (name ∷ words_of d) ≡ Ok (with_ops so_far (op_on name (a ∷ [])))
one-read so_far n name d a ready gate w low =
    gate_body so_far n name 1 (words_of d) ready gate (rw (w.closed) refl)
    ∙ rw (gate.size_is, one_operand d a w, place_read so_far n d a ready w low, one_op so_far n a name ready) refl

pub two-read : (so_far : SoFar) (n : ℕ) (name d e : List ℕ) (a b : ℕ) → IsReadyForGate so_far n → IsGate name 2 → IsWritten d a → IsWritten e b → a < n → b < n → a ≢ b
    → statement_read so_far (name ∷ (words_of d ++ (codes "," ∷ words_of e))) ≡ Ok (with_ops so_far (op_on name (a ∷ b ∷ [])))
two-read so_far n name d e a b ready gate w v alow blow ab =
    gate_body so_far n name 2 (words_of d ++ (codes "," ∷ words_of e)) ready gate (rw (w.closed, v.closed) refl)
    ∙ rw (gate.size_is, two_operands d e a b w v, place_read so_far n d a ready w alow, place_read so_far n e b ready v blow, two_ops so_far n a b name ready ab) refl

pub three-read : (so_far : SoFar) (n : ℕ) (name d e f : List ℕ) (a b c : ℕ) → IsReadyForGate so_far n → IsGate name 3 → IsWritten d a → IsWritten e b → IsWritten f c
    → a < n → b < n → c < n → a ≢ b → a ≢ c → b ≢ c
    → statement_read so_far (name ∷ (words_of d ++ (codes "," ∷ (words_of e ++ (codes "," ∷ words_of f))))) ≡ Ok (with_ops so_far (op_on name (a ∷ b ∷ c ∷ [])))
three-read so_far n name d e f a b c ready gate w v u alow blow clow ab ac bc =
    gate_body so_far n name 3 (words_of d ++ (codes "," ∷ (words_of e ++ (codes "," ∷ words_of f)))) ready gate (rw (w.closed, v.closed, u.closed) refl)
    ∙ rw (gate.size_is, three_operands d e f a b c w v u, place_read so_far n d a ready w alow, place_read so_far n e b ready v blow, place_read so_far n f c ready u clow, three_ops so_far n a b c name ready ab ac bc) refl
