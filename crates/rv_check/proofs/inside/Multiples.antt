-- Multiples of the root of two, and coefficients beyond the limit.
use Rattle.std.proofs.Common.{◌≡◌, ℕ, zero, suc, ◌+◌, ◌/◌, ◌%◌, ◌≤◌, Bool, true, false, ◌&&◌, ◌||◌, ℤ, pos, negsuc, ◌+ℤ◌, ◌-ℤ◌, neg_ℤ, refl, sym, ap, ap₂, ◌∙◌, arith}
use Rattle.std.proofs.lemmas.Int.{ints}
use Rattle.std.proofs.lemmas.Bool.{eqb-true, eq-eqb, ltb-false, and_parts, or_parts}
use Rattle.std.specs.Prelude.{unsigned_abs, nat_lt}
use Rattle.rv_net.specs.Cyclotomic.{Cyclotomic, nought, root2, times, times_w, times_w_power}
use Rattle.rv_net.proofs.Cyclotomic.{same_cyclotomic, w_eight}
use Rattle.rv_check.specs.Reduced.{half, is_even, is_large, is_multiple, quotient}
use Rattle.rv_check.specs.declared.coefficient.TheConstants.{MOST_COEFFICIENT}
use Rattle.rv_check.specs.inside.Dense.{halved, is_double}
use Rattle.rv_check.specs.inside.Small.{AreSmall}
use Rattle.rv_check.proofs.Coefficients.{times_root2, quotient_is}

abbrev pub Even : ℤ → Type 0
Even z = (h : ℤ) × (z ≡ h +ℤ h)

even_from : (z : ℤ) → is_even z ≡ true → Even z
even_from (pos n) e = (pos (n / 2), omega (arith, ints, eqb-true (n % 2) 0 e))
even_from (negsuc n) e = (neg_ℤ (pos (suc n / 2)), omega (arith, ints, eqb-true (suc n % 2) 0 e))

twice_even : (h : ℤ) → unsigned_abs (h +ℤ h) % 2 ≡ 0
twice_even h = grind arith

is_even_from : (z h : ℤ) → z ≡ h +ℤ h → is_even z ≡ true
is_even_from z h e = eq-eqb _ 0 (ap (λ x. unsigned_abs x % 2) e ∙ twice_even h)

half-twice : (h : ℤ) → half (h +ℤ h) ≡ h
half-twice (pos n) = let e : (n + n) / 2 ≡ n = omega arith in ap pos e
half-twice (negsuc n) = let e : suc (suc (n + n)) / 2 ≡ suc n = omega arith in ap (λ k. neg_ℤ (pos k)) e

half_is : (z h : ℤ) → z ≡ h +ℤ h → half z ≡ h
half_is z h e = ap half e ∙ half-twice h

pub multiple_from : (u : Cyclotomic) → Even (u.a +ℤ u.c) → Even (u.b +ℤ u.d) → is_multiple u ≡ true
multiple_from u (p, hp) (q, hq) = ap₂ (λ x y. x && y) (is_even_from _ p hp) (is_even_from _ q hq)

pub halves_of : (u : Cyclotomic) → is_multiple u ≡ true → Even (u.a +ℤ u.c) × Even (u.b +ℤ u.d)
halves_of u e = let b = and_parts (is_even (u.a +ℤ u.c)) (is_even (u.b +ℤ u.d)) e in (even_from _ b.0, even_from _ b.1)

pub root2_quotient : (u : Cyclotomic) → is_multiple u ≡ true → times root2 (quotient u) ≡ u
root2_quotient u e = go (halves_of u e) where
  go : Even (u.a +ℤ u.c) × Even (u.b +ℤ u.d) → times root2 (quotient u) ≡ u
  go ((p, hp), (q, hq)) =
      let a : half (u.b -ℤ u.d) ≡ q -ℤ u.d = half_is (u.b -ℤ u.d) (q -ℤ u.d) (omega (arith, ints, hq)) in
      let b : half (u.a +ℤ u.c) ≡ p = half_is (u.a +ℤ u.c) p hp in
      let c : half (u.b +ℤ u.d) ≡ q = half_is (u.b +ℤ u.d) q hq in
      let d : half (u.c -ℤ u.a) ≡ p -ℤ u.a = half_is (u.c -ℤ u.a) (p -ℤ u.a) (omega (arith, ints, hp)) in
      let is : quotient u ≡ record { a = q -ℤ u.d; b = p; c = q; d = p -ℤ u.a } = quotient_is u ∙ same_cyclotomic _ _ a b c d in
      ap (times root2) is ∙ times_root2 (record { a = q -ℤ u.d; b = p; c = q; d = p -ℤ u.a })
      ∙ same_cyclotomic (record { a = p -ℤ (p -ℤ u.a); b = (q -ℤ u.d) +ℤ q; c = p +ℤ (p -ℤ u.a); d = q -ℤ (q -ℤ u.d) }) u (omega (arith, ints, hp)) (omega (arith, ints, hq)) (omega (arith, ints, hp)) (omega (arith, ints, hq))

pub quotient_root2 : (u : Cyclotomic) → quotient (times root2 u) ≡ u
quotient_root2 u =
    ap quotient (times_root2 u) ∙ quotient_is (record { a = u.b -ℤ u.d; b = u.a +ℤ u.c; c = u.b +ℤ u.d; d = u.c -ℤ u.a })
    ∙ same_cyclotomic _ u
    (half_is ((u.a +ℤ u.c) -ℤ (u.c -ℤ u.a)) u.a (omega (arith, ints)))
    (half_is ((u.b -ℤ u.d) +ℤ (u.b +ℤ u.d)) u.b (omega (arith, ints)))
    (half_is ((u.a +ℤ u.c) +ℤ (u.c -ℤ u.a)) u.c (omega (arith, ints)))
    (half_is ((u.b +ℤ u.d) -ℤ (u.b -ℤ u.d)) u.d (omega (arith, ints)))

pub multiple-root2 : (u : Cyclotomic) → is_multiple (times root2 u) ≡ true
multiple-root2 u = ap is_multiple (times_root2 u) ∙ multiple_from (record { a = u.b -ℤ u.d; b = u.a +ℤ u.c; c = u.b +ℤ u.d; d = u.c -ℤ u.a }) (u.b, omega (arith, ints)) (u.c, omega (arith, ints))

-- a multiple of two is one of the root of two, twice
pub double_is : (u : Cyclotomic) → is_double u ≡ true → times root2 (times root2 (halved u)) ≡ u
double_is u e =
    let p = and_parts (is_even u.a) (is_even u.b && (is_even u.c && is_even u.d)) e in
    let q = and_parts (is_even u.b) (is_even u.c && is_even u.d) p.1 in
    let r = and_parts (is_even u.c) (is_even u.d) q.1 in
    go (even_from u.a p.0) (even_from u.b q.0) (even_from u.c r.0) (even_from u.d r.1) where
      go : Even u.a → Even u.b → Even u.c → Even u.d → times root2 (times root2 (halved u)) ≡ u
      go (a, ha) (b, hb) (c, hc) (d, hd) =
          ap (λ v. times root2 (times root2 v)) (same_cyclotomic (halved u) (record { a = a; b = b; c = c; d = d }) (half_is u.a a ha) (half_is u.b b hb) (half_is u.c c hc) (half_is u.d d hd))
          ∙ ap (times root2) (times_root2 (record { a = a; b = b; c = c; d = d }))
          ∙ times_root2 (record { a = b -ℤ d; b = a +ℤ c; c = b +ℤ d; d = c -ℤ a })
          ∙ same_cyclotomic (record { a = (a +ℤ c) -ℤ (c -ℤ a); b = (b -ℤ d) +ℤ (b +ℤ d); c = (a +ℤ c) +ℤ (c -ℤ a); d = (b +ℤ d) -ℤ (b -ℤ d) }) u
          (omega (arith, ints, ha)) (omega (arith, ints, hb)) (omega (arith, ints, hc)) (omega (arith, ints, hd))

pub multiple-nought : is_multiple nought ≡ true
unfolding nought
multiple-nought = refl

pub multiple-times_w : (u : Cyclotomic) → is_multiple u ≡ true → is_multiple (times_w u) ≡ true
unfolding times_w
multiple-times_w u g = grind arith

multiples_on : (p : ℕ) (u : Cyclotomic) → is_multiple u ≡ true → is_multiple (times_w_power p u) ≡ true
unfolding times_w_power
multiples_on zero u g = g
multiples_on (suc p) u g = multiple-times_w (times_w_power p u) (multiples_on p u g)

multiple_back : (u : Cyclotomic) → is_multiple (times_w u) ≡ true → is_multiple u ≡ true
unfolding times_w_power
multiple_back u g = ap is_multiple (sym (w_eight u)) ∙ multiples_on 7 (times_w u) g

pub multiple_turned : (p : ℕ) (u : Cyclotomic) → is_multiple (times_w_power p u) ≡ true → is_multiple u ≡ true
unfolding times_w_power
multiple_turned zero u g = g
multiple_turned (suc p) u g = multiple_turned p u (multiple_back (times_w_power p u) g)

-- ---- beyond the limit

last_first : (a b c d : Bool) → (d || a || b || c) ≡ (a || b || c || d)
last_first a b c d = grind arith

pub large-times_w : (u : Cyclotomic) → is_large (times_w u) ≡ is_large u
unfolding times_w
large-times_w u = grind arith

pub large_turned : (p : ℕ) (u : Cyclotomic) → is_large (times_w_power p u) ≡ is_large u
unfolding times_w_power
large_turned zero u = refl
large_turned (suc p) u = large-times_w (times_w_power p u) ∙ large_turned p u

not_lt : (a b : ℕ) → nat_lt a b ≡ false → b ≤ a
not_lt a b e = ltb-false a b e

pub small_from : (u : Cyclotomic) → is_large u ≡ false → AreSmall MOST_COEFFICIENT u
small_from u e = grind (arith, or_parts, not_lt)

pub large-nought : is_large nought ≡ false
unfolding nought
large-nought = refl
