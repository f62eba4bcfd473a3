-- The sets of the lines of operands.
use Rattle.std.proofs.Common.{◌≡◌, ◌≢◌, ℕ, zero, suc, ◌^◌, ◌<◌, ◌≤◌, Bool, true, false, not, cond, ◌||◌, List, [], ◌∷◌, ◌++◌, length, take, nat_eq, refl, sym, ap, ◌∙◌, arith, eq-eqb, true≢false}
use Rattle.std.specs.Prelude.{All, bit_or}
use Rattle.std.proofs.lemmas.Bool.{or_parts}
use Rattle.std.proofs.lemmas.List.{append-nil}
use Rattle.std.proofs.lemmas.List.Elements.{All-head, All-tail, filter-append}
use Rattle.std.proofs.lemmas.Nat.Bits.{same_from_bits}
use Rattle.rv_gate.specs.Word.{has}
use Rattle.rv_gate.proofs.LineSets.{has-none, has-with_line, bits_from_has}
use Rattle.rv_real.specs.Body.{Operand, names_line, has_repeated, line_set, wanting_one, line_at}
use Rattle.rv_gate.proofs.Bits.{or_assoc, or_comm}

pub nat_eq-swap : (a b : ℕ) → nat_eq a b ≡ nat_eq b a
nat_eq-swap a b = grind arith

-- the set of the lines has those that operands name
pub has-line_set : (operands : List Operand) (line : ℕ) → has (line_set operands) line ≡ names_line operands line
has-line_set [] line = has-none line
has-line_set (o ∷ os) line = let hyp = has-line_set os line in grind (arith, hyp, has-with_line, nat_eq, nat_eq-swap, or_comm)

-- one operand more
pub names_line-push : (operands : List Operand) (o : Operand) (line : ℕ) → names_line (operands ++ o ∷ []) line ≡ (names_line operands line || nat_eq o.line line)
names_line-push [] o line = or_comm (nat_eq o.line line) false
names_line-push (p ∷ operands) o line = ap (λ t. nat_eq p.line line || t) (names_line-push operands o line) ∙ or_assoc (nat_eq p.line line) (names_line operands line) (nat_eq o.line line)

pub line_set-push : (operands : List Operand) (o : Operand) → line_set (operands ++ o ∷ []) ≡ bit_or (line_set operands) (2 ^ o.line)
line_set-push operands o =
    same_from_bits _ _ (λ i.
    bits_from_has _ i _ i
    (has-line_set (operands ++ o ∷ []) i
    ∙ names_line-push operands o i
    ∙ ap (λ t. t || nat_eq o.line i) (sym (has-line_set operands i))
    ∙ ap (λ t. has (line_set operands) i || t) (nat_eq-swap o.line i)
    ∙ sym (has-with_line (line_set operands) o.line i)))

with_last : (operands : List Operand) (o : Operand) (negative : Bool)
    → line_set (operands ++ cond (not negative) (o ∷ []) []) ≡ cond negative (line_set operands) (bit_or (line_set operands) (2 ^ o.line))
with_last operands o true = ap line_set (append-nil operands)
with_last operands o false = line_set-push operands o

pub positive-push : (operands : List Operand) (o : Operand)
    → line_set (wanting_one (operands ++ o ∷ [])) ≡ cond o.is_negative (line_set (wanting_one operands)) (bit_or (line_set (wanting_one operands)) (2 ^ o.line))
positive-push operands o =
    ap line_set (filter-append (λ operand. not operand.is_negative) operands (o ∷ [])) ∙ with_last (wanting_one operands) o o.is_negative

-- the lines that want 1 are among the lines
positive_named : (operands : List Operand) (line : ℕ) → names_line (wanting_one operands) line ≡ true → names_line operands line ≡ true
positive_named [] line h = h
positive_named (o ∷ os) line h = let rest = positive_named os line in grind (arith, rest)

pub subset : (operands : List Operand) (line : ℕ) → has (line_set (wanting_one operands)) line ≡ true → has (line_set operands) line ≡ true
subset operands line h = has-line_set operands line ∙ positive_named operands line (sym (has-line_set (wanting_one operands) line) ∙ h)

-- a line that no operand names is not the line of one of them
pub not_named : (operands : List Operand) (line k : ℕ) → names_line operands line ≡ false → k < length operands → nat_eq (line_at operands k) line ≡ false
not_named [] line k h lt = absurd (omega (arith, lt))
not_named (o ∷ os) line zero h lt = (or_parts _ _ h).0
not_named (o ∷ os) line (suc k) h lt = not_named os line k (or_parts (nat_eq o.line line) (names_line os line) h).1 (omega (arith, lt))

-- an operand that is not repeated has a line of its own
pub apart : (operands : List Operand) (m k : ℕ) → m ≤ k → k < length operands → has_repeated operands ≡ false → names_line (take m operands) (line_at operands k) ≡ false
apart [] m k le lt h = absurd (omega (arith, lt))
apart (o ∷ os) zero k le lt h = refl
apart (o ∷ os) (suc m) zero le lt h = absurd (omega (arith, le))
apart (o ∷ os) (suc m) (suc k) le lt h = let hyp = apart os m k in grind (arith, hyp, or_parts, nat_eq-swap, not_named)

pub differ : (operands : List Operand) (i k : ℕ) → i < k → k < length operands → has_repeated operands ≡ false → line_at operands i ≢ line_at operands k
differ [] i k lt within h e = absurd (omega (arith, within))
differ (o ∷ os) i zero lt within h e = absurd (omega (arith, lt))
differ (o ∷ os) zero (suc k) lt within h e =
    let parts = or_parts (names_line os o.line) (has_repeated os) h in
    true≢false (sym (eq-eqb (line_at os k) o.line (sym e)) ∙ not_named os o.line k parts.0 (omega (arith, within)))
differ (o ∷ os) (suc i) (suc k) lt within h e = differ os i k (omega (arith, lt)) (omega (arith, within)) (or_parts (names_line os o.line) (has_repeated os) h).1 e

-- one operand more
has_repeated-step : (a b c d e : Bool) → b ≡ c → ((a || b) || (d || e)) ≡ ((a || d) || (c || e))
has_repeated-step a b c d e h = grind arith

pub has_repeated-push : (operands : List Operand) (o : Operand) → has_repeated (operands ++ o ∷ []) ≡ (has_repeated operands || names_line operands o.line)
has_repeated-push [] o = refl
has_repeated-push (p ∷ operands) o = let hyp = has_repeated-push operands o in grind (arith, hyp, names_line-push, nat_eq, has_repeated-step, nat_eq-swap)

-- the lines of operands that are below a number
pub named_below : (lines : ℕ) (operands : List Operand) (line : ℕ) → All (λ o. o.line < lines) operands → names_line operands line ≡ true → line < lines
named_below lines [] line below h = absurd cc
named_below lines (o ∷ os) line below h =
    let here = All-head (λ o. o.line < lines) o os below in let rest = named_below lines os line (All-tail (λ o. o.line < lines) o os below) in grind (arith, here, rest)
