-- How many lines a set has is how many bits of its number are 1.
use Rattle.std.proofs.Common.{◌≡◌, ℕ, suc, ◌+◌, ◌*◌, ◌/◌, ◌%◌, ◌^◌, ◌<◌, ◌≤◌, Bool, true, false, cond, eqb, sym, ◌∙◌, ap, inl, inr, arith}
use Rattle.std.specs.Prelude.{count_ones}
use Rattle.std.proofs.lemmas.Bool.{cases_eq, eqb-true, eqb-false}
use Rattle.std.proofs.lemmas.Nat.{ones_cat, ones_le_self, zero_from_ones}
use Rattle.std.proofs.lemmas.Nat.Bits.{bit_at-suc, bit_at_lowest}
use Rattle.rv_gate.specs.Word.{has}

-- the bits of a number are those of its half, and its lowest
pub ones_halves : (m : ℕ) → count_ones m ≡ count_ones (m / 2) + m % 2
ones_halves m =
    let whole : m / 2 * 2 ^ 1 + m % 2 ≡ m = omega arith in
    let halves : count_ones (m / 2 * 2 ^ 1 + m % 2) ≡ count_ones (m / 2) + count_ones (m % 2) = ones_cat 1 (m / 2) (m % 2) (omega arith) in
    let low : count_ones (m % 2) ≡ m % 2 = ones_bit (m % 2) (omega arith) in
    let both : count_ones m ≡ count_ones (m / 2) + count_ones (m % 2) = ap count_ones (sym whole) ∙ halves in
    omega (arith, both, low)
  where
    ones_bit : (b : ℕ) → b < 2 → count_ones b ≡ b
    ones_bit b h =
        let le : count_ones b ≤ b = ones_le_self b in
        elim (cases_eq (count_ones b) 0) [
          | inl none ↦ let z = zero_from_ones b none in omega arith
          | inr some ↦ omega arith
        ]

pub odd : (m : ℕ) → has m 0 ≡ true → m % 2 ≡ 1
odd m h = let one = eqb-true _ 1 h in let low = bit_at_lowest m in omega arith

pub even : (m : ℕ) → has m 0 ≡ false → m % 2 ≡ 0
even m h = let ne = eqb-false _ 1 h in let low = bit_at_lowest m in omega arith

-- the lines of the half, each one lower
pub has_half : (m i : ℕ) → has (m / 2) i ≡ has m (suc i)
has_half m i = ap (λ b. eqb b 1) (sym (bit_at-suc m i))

-- line 0 is the lowest bit
pub low_bit : (b : Bool) (s : ℕ) → has s 0 ≡ b → cond {A = ℕ} b 1 0 ≡ s % 2
low_bit true s e = let o = odd s e in omega arith
low_bit false s e = let o = even s e in omega arith
