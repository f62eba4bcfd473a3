-- The tokens of what is written of a network.
use Rattle.std.proofs.Common.{◌≡◌, ℕ, suc, ◌+◌, ◌<◌, ◌^◌, Bool, true, false, not, List, [], ◌∷◌, ◌++◌, length, nat_eq, nat_lt, refl, arith, sym, ◌∙◌, decimal, codes, ne_eqb, append_assoc}
use Rattle.std.specs.Char.{is_ascii_digit}
use Rattle.std.specs.List.{list_all, prefix_len}
use Rattle.std.specs.Int.{IsInRange}
use Rattle.std.specs.Str.{all_ascii_digits}
use Rattle.std.proofs.Math.Seq.{drop-append_seam, take-append_seam}
use Rattle.std.proofs.lemmas.Bool.{and_parts, cond-false, cond-true, lt-leb}
use Rattle.std.proofs.lemmas.Str.Parse.{tells_all_ascii_digits}
use Rattle.rv_text.specs.Decimal.{is_decimal}
use Rattle.rv_text.proofs.inside.Decimal.{is_decimal-decimal, digit_range}
use Rattle.rv_qasm.specs.Text.{gate_on, qubit, qubits}
use Rattle.rv_qasm.specs.Tokens.{TokenOnLine, begins_name, number_length, token_length, tokens_after}
use Rattle.rv_text.specs.Tokens.{is_blank}

abbrev is_inside : ℕ → Bool
is_inside c = not (nat_eq c 10)

-- the other bytes of a token that was found are passed over
passed : (bytes rest : List ℕ) (line : ℕ) → list_all is_inside bytes ≡ true → tokens_after (length bytes) line (bytes ++ rest) ≡ tokens_after 0 line rest
unfolding tokens_after
passed [] rest line h = refl
passed (c ∷ bytes) rest line h =
    let p = and_parts (is_inside c) (list_all is_inside bytes) h in
    rw (from_not (nat_eq c 10) p.0) (passed bytes rest line p.1)
  where
    from_not : (b : Bool) → not b ≡ true → b ≡ false
    from_not true h = sym h
    from_not false h = refl

digits_inside : (digits : List ℕ) → all_ascii_digits digits ≡ true → list_all is_inside digits ≡ true
digits_inside [] h = refl
digits_inside (c ∷ digits) h = let i0 = digits_inside digits in grind (arith, i0, digit_range, ne_eqb)

digits_len : (digits more : List ℕ) → all_ascii_digits digits ≡ true → prefix_len is_ascii_digit (digits ++ (93 ∷ more)) ≡ length digits
digits_len [] more h = refl
digits_len (c ∷ digits) more h = let i0 = digits_len digits more in grind (arith, i0)

-- digits before a bracket are a number
digits_number : (digits more : List ℕ) → all_ascii_digits digits ≡ true → number_length (digits ++ (93 ∷ more)) ≡ length digits
digits_number digits more h = rw (digits_len digits more h, drop-append_seam digits (93 ∷ more)) refl

-- the first token of bytes, and those after it
found : (c : ℕ) (bytes rest : List ℕ) (line : ℕ) → is_blank (10 ∷ []) c ≡ false → nat_eq c 47 ≡ false → token_length c (bytes ++ rest) ≡ suc (length bytes)
    → list_all is_inside bytes ≡ true → tokens_after 0 line (c ∷ (bytes ++ rest)) ≡ record { bytes = c ∷ bytes; line = line } ∷ tokens_after 0 line rest
unfolding tokens_after
found c bytes rest line blank comment len inside = grind (arith, take-append_seam, passed)

digit_no_blank : (c : ℕ) → IsInRange 48 57 c → is_blank (10 ∷ []) c ≡ false
digit_no_blank c r =
    rw (ne_eqb c 32 (λ e. omega (arith, e, r.0)), ne_eqb c 9 (λ e. omega (arith, e, r.0)), ne_eqb c 13 (λ e. omega (arith, e, r.0)), ne_eqb 10 c (λ e. omega (arith, e, r.0))) refl

digit_no_name : (c : ℕ) → IsInRange 48 57 c → begins_name c ≡ false
digit_no_name c r = rw (lt-leb 65 c (omega (arith, r.1)), lt-leb 97 c (omega (arith, r.1)), ne_eqb c 95 (λ e. omega (arith, e, r.1))) refl

pub number_token : (digits more : List ℕ) (line : ℕ) → is_decimal digits ≡ true
    → tokens_after 0 line (digits ++ (93 ∷ more)) ≡ record { bytes = digits; line = line } ∷ tokens_after 0 line (93 ∷ more)
number_token [] more line h = absurd (let z = h in cc)
number_token (c ∷ digits) more line h =
    let all = (and_parts (nat_lt 0 (length (c ∷ digits))) (all_ascii_digits (c ∷ digits)) h).1 in
    let p = and_parts (is_ascii_digit c) (all_ascii_digits digits) all in
    let r = digit_range c p.0 in
    found c digits (93 ∷ more) line (digit_no_blank c r) (ne_eqb c 47 (λ e. omega (arith, e, r.0))) (is_number c p.0 r (digits_number (c ∷ digits) more all)) (digits_inside digits p.1)
  where
    is_number : (c : ℕ) → is_ascii_digit c ≡ true → IsInRange 48 57 c → number_length (c ∷ (digits ++ (93 ∷ more))) ≡ suc (length digits)
        → token_length c (digits ++ (93 ∷ more)) ≡ suc (length digits)
    is_number c digit r len = cond-false (begins_name c) _ _ (digit_no_name c r) ∙ (cond-true (is_ascii_digit c) _ _ digit ∙ len)

-- ---- qubits

abbrev pub token : ℕ → List ℕ → TokenOnLine
token line bytes = record { bytes = bytes; line = line }

-- the tokens of a qubit
abbrev pub qubit_tokens : ℕ → ℕ → List TokenOnLine
qubit_tokens line a = token line (codes "q") ∷ token line (codes "[") ∷ token line (decimal a) ∷ token line (codes "]") ∷ []

-- of qubits, with commas between them
abbrev pub operand_tokens : ℕ → List ℕ → List TokenOnLine
operand_tokens line [] = []
operand_tokens line (a ∷ []) = qubit_tokens line a
operand_tokens line (a ∷ b ∷ more) = qubit_tokens line a ++ (token line (codes ",") ∷ operand_tokens line (b ∷ more))

abbrev pub AreSmall : List ℕ → Type 0
AreSmall [] = Unit {0}
AreSmall (a ∷ lines) = (a < 2 ^ 64) × AreSmall lines

qubit-tokens : (a line : ℕ) (rest : List ℕ) → a < 2 ^ 64 → tokens_after 0 line (qubit a ++ rest) ≡ qubit_tokens line a ++ tokens_after 0 line rest
unfolding tokens_after
qubit-tokens a line rest small = grind (arith, tokens_after, append_assoc, number_token, is_decimal-decimal)

operand-tokens : (lines : List ℕ) (line : ℕ) (rest : List ℕ) → AreSmall lines → tokens_after 0 line (qubits lines ++ rest) ≡ operand_tokens line lines ++ tokens_after 0 line rest
unfolding tokens_after
operand-tokens [] line rest small = refl
operand-tokens (a ∷ []) line rest small = qubit-tokens a line rest small.0
operand-tokens (a ∷ b ∷ more) line rest small = let i0 = operand-tokens (b ∷ more) line rest small.1 in grind (arith, i0, append_assoc, qubit-tokens, codes)

-- ---- operations

-- a name that a blank ends
abbrev pub IsToken : List ℕ → Type 0
IsToken name = (line : ℕ) (rest : List ℕ) → tokens_after 0 line (name ++ (32 ∷ rest)) ≡ token line name ∷ tokens_after 0 line rest

abbrev pub gate_tokens : ℕ → List ℕ → List ℕ → List TokenOnLine
gate_tokens line name lines = token line name ∷ operand_tokens line lines

-- a gate on qubits, and what follows its `;`
pub gate-tokens : (name lines : List ℕ) (line : ℕ) (rest : List ℕ) → IsToken name → AreSmall lines
    → tokens_after 0 line ((gate_on name lines ++ codes ";\n") ++ rest) ≡ gate_tokens line name lines ++ (token line (codes ";") ∷ tokens_after 0 (line + 1) rest)
unfolding tokens_after
gate-tokens name lines line rest is_token small = grind (arith, tokens_after, operand-tokens, append_assoc)
