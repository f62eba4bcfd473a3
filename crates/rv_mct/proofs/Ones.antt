-- How many lines a set has is how many bits of its number are 1.
use Rattle.std.proofs.Common.{◌≡◌, ℕ, zero, suc, ◌+◌, ◌/◌, ◌^◌, ◌<◌, Bool, cond, sym, arith}
use Rattle.std.specs.Prelude.{count_ones}
use Rattle.std.proofs.lemmas.Nat.{ones_le_self}
use Rattle.rv_gate.specs.Word.{has}
use Rattle.rv_gate.proofs.CountOnes.{ones_halves, has_half, low_bit}
use Rattle.rv_mct.specs.Blocks.{count, count_lines}
use Rattle.rv_mct.proofs.Rising.{count_zero, count-suc}

count_shift : (p : ℕ → Bool) (n : ℕ) → count p (suc n) ≡ cond {A = ℕ} (p 0) 1 0 + count (λ i. p (suc i)) n
count_shift p zero = omega (arith, count-suc p 0, count_zero p, count_zero (λ i. p (suc i)))
count_shift p (suc n) = omega (arith, count-suc p (suc n), count_shift p n, count-suc (λ i. p (suc i)) n)

count_each : (p q : ℕ → Bool) (n : ℕ) → ((i : ℕ) → p i ≡ q i) → count p n ≡ count q n
count_each p q zero h = omega (arith, count_zero p, count_zero q)
count_each p q (suc n) h = let hyp = count_each p q n h in grind (arith, hyp, count-suc)

ones_below : (n s : ℕ) → s < 2 ^ n → count (has s) n ≡ count_ones s
ones_below zero s h = let z : s ≡ 0 = omega arith in let le = ones_le_self s in omega (arith, count_zero (has s))
ones_below (suc n) s h = let hyp = ones_below n (s / 2) in grind (arith, hyp, count_each, has_half, low_bit, count_shift, ones_halves)

pub count_lines_ones : (s : ℕ) → s < 2 ^ 64 → count_ones s ≡ count_lines s
count_lines_ones s h = sym (ones_below 64 s h)
