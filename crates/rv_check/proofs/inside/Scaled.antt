-- The root of two, multiplied in so many times.
use Rattle.std.proofs.Common.{◌≡◌, ℕ, zero, suc, refl, sym, ap, ◌∙◌, arith}
use Rattle.std.proofs.lemmas.Int.{ints}
use Rattle.rv_net.specs.Cyclotomic.{Cyclotomic, nought, unity, root2, plus, power, times, times_w, times_w_power}
use Rattle.rv_net.proofs.Cyclotomic.{same_cyclotomic, times-add_left, times-add_right, times_w_power-times}
use Rattle.rv_check.specs.inside.Stands.{scaled}
use Rattle.rv_check.proofs.Coefficients.{times_root2}
use Rattle.rv_check.proofs.inside.Multiples.{quotient_root2}
use Rattle.rv_check.specs.Reduced.{quotient}

root2-turns : (u : Cyclotomic) → times root2 u ≡ plus (times_w_power 1 u) (times_w_power 7 u)
unfolding plus times_w_power times_w
root2-turns u = times_root2 u ∙ same_cyclotomic _ _ (omega (arith, ints)) (omega (arith, ints)) (omega (arith, ints)) (omega (arith, ints))

pub root2-times : (u v : Cyclotomic) → times (times root2 u) v ≡ times root2 (times u v)
root2-times u v = grind (arith, root2-turns, times-add_right, times_w_power, times_w_power-times)

root2-nought : times root2 nought ≡ nought
unfolding times root2 nought
root2-nought = refl

pub scaled-nought : (n : ℕ) → scaled n nought ≡ nought
unfolding scaled
scaled-nought zero = refl
scaled-nought (suc n) = ap (times root2) (scaled-nought n) ∙ root2-nought

pub scaled-plus : (n : ℕ) (u v : Cyclotomic) → scaled n (plus u v) ≡ plus (scaled n u) (scaled n v)
unfolding scaled
scaled-plus zero u v = refl
scaled-plus (suc n) u v = ap (times root2) (scaled-plus n u v) ∙ times-add_left root2 _ _

pub scaled-times : (n : ℕ) (u v : Cyclotomic) → times (scaled n u) v ≡ scaled n (times u v)
unfolding scaled
scaled-times zero u v = refl
scaled-times (suc n) u v = root2-times (scaled n u) v ∙ ap (times root2) (scaled-times n u v)

pub scaled-root2 : (n : ℕ) (u : Cyclotomic) → scaled n (times root2 u) ≡ scaled (suc n) u
unfolding scaled
scaled-root2 zero u = refl
scaled-root2 (suc n) u = ap (times root2) (scaled-root2 n u)

pub scaled-unity : (n : ℕ) → scaled n unity ≡ power root2 n
unfolding scaled power
scaled-unity zero = refl
scaled-unity (suc n) = ap (times root2) (scaled-unity n)

-- division by the root of two has one result
pub scaled_cancel : (n : ℕ) (u v : Cyclotomic) → scaled n u ≡ scaled n v → u ≡ v
unfolding scaled
scaled_cancel zero u v e = e
scaled_cancel (suc n) u v e = scaled_cancel n u v (sym (quotient_root2 (scaled n u)) ∙ ap quotient e ∙ quotient_root2 (scaled n v))
