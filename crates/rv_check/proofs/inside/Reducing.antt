-- The kept vector, reduced.
use Rattle.std.proofs.Common.{◌≡◌, ℕ, zero, suc, ◌+◌, ◌≤◌, true, false, cond, List, map, refl, ap, ◌∙◌, arith, ℤ, pos, negsuc}
use Rattle.std.proofs.lemmas.Int.{ints}
use Rattle.std.specs.Prelude.{unsigned_abs}
use Rattle.rv_net.specs.Cyclotomic.{Cyclotomic}
use Rattle.rv_check.specs.declared.member.Member.{Member}
use Rattle.rv_check.specs.Reduced.{half, quotient}
use Rattle.rv_check.specs.inside.Kept.{divided, reduced_kept}
use Rattle.rv_check.specs.inside.Small.{AreSmall}
use Rattle.rv_check.specs.inside.Stands.{multiples}
use Rattle.rv_check.proofs.Coefficients.{quotient_is}

pub reduced_more : (exponent k : ℕ) (ms : List Member) → exponent ≡ suc k → multiples ms ≡ true → reduced_kept exponent ms ≡ reduced_kept k (map divided ms)
unfolding reduced_kept
reduced_more exponent k ms e all = ap (λ n. reduced_kept n ms) e ∙ ap (λ b. cond b (reduced_kept k (map divided ms)) (record { members = ms; exponent = suc k })) all

pub reduced_stop : (exponent : ℕ) (ms : List Member) → multiples ms ≡ false → reduced_kept exponent ms ≡ record { members = ms; exponent = exponent }
unfolding reduced_kept
reduced_stop zero ms e = refl
reduced_stop (suc k) ms e = ap (λ b. cond b (reduced_kept k (map divided ms)) (record { members = ms; exponent = suc k })) e

pub reduced_end : (exponent : ℕ) (ms : List Member) → exponent ≡ 0 → reduced_kept exponent ms ≡ record { members = ms; exponent = exponent }
unfolding reduced_kept
reduced_end exponent ms h = grind arith

-- a half is no greater than both its parts
half_small : (z : ℤ) (most : ℕ) → unsigned_abs z ≤ most + most → unsigned_abs (half z) ≤ most
half_small (pos n) most h = omega arith
half_small (negsuc n) most h = omega (arith, ints)

pub quotient_small : (most : ℕ) (u : Cyclotomic) → AreSmall most u → AreSmall most (quotient u)
quotient_small most u h = grind (arith, quotient_is, half_small, ints)
