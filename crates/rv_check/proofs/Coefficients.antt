-- Laws of coefficients: multiples of the root of two, and their quotients.
use Rattle.std.proofs.Common.{◌≡◌, ◌∙◌, ℤ, ◌+ℤ◌, ◌-ℤ◌, ap, ap₂, arith}
use Rattle.std.proofs.lemmas.Int.{ints, to_z-of_z}
use mir.Syntax.{Width}
use mir.Val.{to_z, of_z, SFits}
use Rattle.rv_net.specs.Cyclotomic.{Cyclotomic, root2, times}
use Rattle.rv_net.proofs.Cyclotomic.{same_cyclotomic}
use Rattle.rv_check.specs.Reduced.{half, quotient}

-- the product with the root of two
pub times_root2 : (u : Cyclotomic) → times root2 u ≡ record { a = u.b -ℤ u.d; b = u.a +ℤ u.c; c = u.b +ℤ u.d; d = u.c -ℤ u.a }
unfolding times root2
times_root2 u = same_cyclotomic _ _ (omega (arith, ints)) (omega (arith, ints)) (omega (arith, ints)) (omega (arith, ints))

pub quotient_is : (u : Cyclotomic) → quotient u ≡ record { a = half (u.b -ℤ u.d); b = half (u.a +ℤ u.c); c = half (u.b +ℤ u.d); d = half (u.c -ℤ u.a) }
unfolding quotient
quotient_is u = ap (λ t. record { a = half t.a; b = half t.b; c = half t.c; d = half t.d }) (times_root2 u)

-- what the code's half of a sum or a difference is
pub half_of_sum : (w : Width) (r x y x2 y2 : ℤ) → r ≡ half (to_z w (of_z w x) +ℤ to_z w (of_z w y)) → SFits w r → SFits w x → SFits w y → x ≡ x2 → y ≡ y2
    → to_z w (of_z w r) ≡ half (x2 +ℤ y2)
half_of_sum w r x y x2 y2 is fits fits2 fits3 e e2 = to_z-of_z w r fits ∙ is ∙ ap₂ (λ p q. half (p +ℤ q)) (to_z-of_z w x fits2 ∙ e) (to_z-of_z w y fits3 ∙ e2)

pub half_of_difference : (w : Width) (r x y x2 y2 : ℤ) → r ≡ half (to_z w (of_z w x) -ℤ to_z w (of_z w y)) → SFits w r → SFits w x → SFits w y → x ≡ x2 → y ≡ y2
    → to_z w (of_z w r) ≡ half (x2 -ℤ y2)
half_of_difference w r x y x2 y2 is fits fits2 fits3 e e2 = to_z-of_z w r fits ∙ is ∙ ap₂ (λ p q. half (p -ℤ q)) (to_z-of_z w x fits2 ∙ e) (to_z-of_z w y fits3 ∙ e2)
