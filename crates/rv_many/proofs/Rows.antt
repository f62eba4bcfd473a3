-- The bits of rows.
use Rattle.std.proofs.Common.{◌≡◌, ℕ, zero, suc, ◌-◌, ◌/◌, ◌%◌, ◌^◌, ◌<◌, Bool, true, false, not, [], ◌∷◌, get_or, refl, ap, arith, eq-eqb}
use Rattle.std.proofs.lemmas.Nat.Bits.{bit_at_ones}
use Rattle.rv_gate.specs.Word.{has}
use Rattle.rv_gate.specs.Gate.{same, xor}

of_four : (P : ℕ → Type 0) → P 0 → P 1 → P 2 → P 3 → (k : ℕ) → k < 4 → P k
of_four P a b c d zero lt = a
of_four P a b c d (suc zero) lt = b
of_four P a b c d (suc (suc zero)) lt = c
of_four P a b c d (suc (suc (suc zero))) lt = d
of_four P a b c d (suc (suc (suc (suc k)))) lt = absurd (omega arith)

-- what holds of each part holds of the part of a place
pub of_part : (P : ℕ → Type 0) → P 0 → P 1 → P 2 → P 3 → (j : ℕ) → j < 256 → P (j / 64)
of_part P a b c d j lt = of_four P a b c d (j / 64) (omega arith)

-- the bit of a place, where each part is made by a function
pub bit_of_parts : (f : ℕ → ℕ) (j : ℕ) → j < 256 → has (get_or (f 0 ∷ f 1 ∷ f 2 ∷ f 3 ∷ []) (j / 64) 0) (j % 64) ≡ has (f (j / 64)) (j % 64)
bit_of_parts f j lt = ap (λ part. has part (j % 64)) (of_part (λ k. get_or (f 0 ∷ f 1 ∷ f 2 ∷ f 3 ∷ []) k 0 ≡ f k) refl refl refl refl j lt)

pub has-ones : (i : ℕ) → i < 64 → has (2 ^ 64 - 1) i ≡ true
has-ones i lt = eq-eqb _ 1 (bit_at_ones 64 i lt)

pub same_other : (x bit : Bool) → xor x (not bit) ≡ same x bit
same_other true true = refl
same_other true false = refl
same_other false true = refl
same_other false false = refl
