-- Two pairings, and the walks that go by the one and the other in turn.
use Rattle.rv_gate.proofs.Lists.{any_below}
use Rattle.std.proofs.Common.{◌≡◌, ◌≢◌, ℕ, zero, suc, ◌+◌, ◌-◌, ◌*◌, ◌/◌, ◌%◌, ◌<◌, ◌≤◌, Bool, false, not, eqb, ltb, List, length, get_or, map, refl, sym, ◌∙◌, ap, inl, inr, arith, ne_eqb}
use Rattle.std.specs.Prelude.{◌⊎◌}
use Rattle.std.specs.List.{range_with_len}
use Rattle.std.proofs.lemmas.Bool.{cases_eq, cases_lt}
use Rattle.std.proofs.Math.Nat.{mul-le-mul_left, mul_comm}
use Rattle.std.proofs.lemmas.List.FromFn.{length-map-range_with_len, get_or-map-range_with_len}
use Rattle.std.proofs.lemmas.Map.Keys.{IsDistinct-from_apart}
use Rattle.std.proofs.lemmas.Map.Steps.{length-le_from_distinct_below}
use Rattle.std.specs.Fn.{iterate}
use Rattle.rv_dbs.specs.Walk.{least_from}

-- each number below m has another as its partner
pub record IsPairing (m : ℕ) (f : ℕ → ℕ) : Type 0 where
  pub within : (x : ℕ) → x < m → f x < m
  pub back : (x : ℕ) → x < m → f (f x) ≡ x
  pub moves : (x : ℕ) → x < m → f x ≢ x

-- ---- steps

pub after-add : (step : ℕ → ℕ) (j k x : ℕ) → iterate step (j + k) x ≡ iterate step k (iterate step j x)
after-add step zero k x = let e : 0 + k ≡ k = omega arith in ap (λ i. iterate step i x) e
after-add step (suc j) k x = let e : suc j + k ≡ suc (j + k) = omega arith in ap (λ i. iterate step i x) e ∙ after-add step j k (step x)

pub after-last : (step : ℕ → ℕ) (k x : ℕ) → iterate step (suc k) x ≡ step (iterate step k x)
after-last step zero x = refl
after-last step (suc k) x = after-last step k (step x)

-- ---- the least word of some steps

pub least_le : (step : ℕ → ℕ) (c j x : ℕ) → j ≤ c → least_from step c x ≤ iterate step j x
unfolding least_from
least_le step zero zero x h = omega arith
least_le step zero (suc j) x h = absurd (omega arith)
least_le step (suc c) zero x h = omega arith
least_le step (suc c) (suc j) x h = let r = least_le step c j (step x) (omega arith) in omega arith

pub least_is : (step : ℕ → ℕ) (c x : ℕ) → (j : ℕ) × (least_from step c x ≡ iterate step j x)
unfolding least_from
least_is step zero x = (0, refl)
least_is step (suc c) x =
    let r = least_is step c (step x) in
    elim (cases_lt x (least_from step c (step x))) [
      | inl less ↦ (0, omega arith)
      | inr more ↦ (suc (r.0), (omega (arith, more)) ∙ r.1)
    ]

-- ---- the walk over two pairings

pub record Walks (m : ℕ) (f a : ℕ → ℕ) : Type 0 where
  pub first : IsPairing m f
  pub second : IsPairing m a

abbrev pub turn : (ℕ → ℕ) → (ℕ → ℕ) → ℕ → ℕ
turn f a x = f (a x)

pub after_within : (m : ℕ) (f a : ℕ → ℕ) (k x : ℕ) → Walks m f a → x < m → iterate (turn f a) k x < m
after_within m f a zero x w h = h
after_within m f a (suc k) x w h = after_within m f a k (f (a x)) w (w.first.within (a x) (w.second.within x h))

pairing_once : (m : ℕ) (f : ℕ → ℕ) (x y : ℕ) → IsPairing m f → x < m → y < m → f x ≡ f y → x ≡ y
pairing_once m f x y p hx hy e = sym (p.back x hx) ∙ ap f e ∙ p.back y hy

turn_once : (m : ℕ) (f a : ℕ → ℕ) (x y : ℕ) → Walks m f a → x < m → y < m → f (a x) ≡ f (a y) → x ≡ y
turn_once m f a x y w hx hy e =
    pairing_once m a x y w.second hx hy (pairing_once m f (a x) (a y) w.first (w.second.within x hx) (w.second.within y hy) e)

after_once : (m : ℕ) (f a : ℕ → ℕ) (k x y : ℕ) → Walks m f a → x < m → y < m → iterate (turn f a) k x ≡ iterate (turn f a) k y → x ≡ y
after_once m f a zero x y w hx hy e = e
after_once m f a (suc k) x y w hx hy e = let i0 = after_once m f a k (f (a x)) (f (a y)) w (w.first.within (a x) (w.second.within x hx)) (w.first.within (a y) (w.second.within y hy)) e in grind (arith, i0, turn_once)

-- ---- the walk comes back

returns_by : (step : ℕ → ℕ) (x c : ℕ) → ((p : ℕ) × (1 ≤ p) × (p ≤ c) × (iterate step p x ≡ x)) ⊎ ((p : ℕ) → 1 ≤ p → p ≤ c → iterate step p x ≢ x)
returns_by step x zero = inr (λ p h l. absurd (omega arith))
returns_by step x (suc c) =
    elim (returns_by step x c) [
      | inl there ↦ inl (there.0, there.1, omega (arith, there.2), there.3)
      | inr none ↦
          (elim (cases_eq (iterate step (suc c) x) x) [
            | inl e ↦ inl (suc c, omega arith, omega arith, e)
            | inr ne ↦ inr (λ p h l e. elim (cases_eq p (suc c)) [ inl at ↦ ne (ap (λ i. iterate step i x) (sym at) ∙ e) | inr other ↦ none p h (omega arith) e ])
          ])
    ]

pub period : (m : ℕ) (f a : ℕ → ℕ) (x : ℕ) → Walks m f a → x < m → (p : ℕ) × (1 ≤ p) × (p ≤ m) × (iterate (turn f a) p x ≡ x)
period m f a x w h =
    elim (returns_by (turn f a) x m) [
      | inl there ↦ there
      | inr none ↦
          let step : ℕ → ℕ = turn f a in
          let seen : List ℕ = map (λ i. iterate (turn f a) i x) (range_with_len 0 (m + 1)) in
          let len : length seen ≡ m + 1 = length-map-range_with_len (λ i. iterate (turn f a) i x) 0 (m + 1) in
          let at : (i d : ℕ) → i < m + 1 → get_or seen i d ≡ iterate (turn f a) i x = λ i d l. get_or-map-range_with_len (λ i. iterate (turn f a) i x) 0 (m + 1) i i d l (omega arith) in
          let apart : (i j d : ℕ) → i < j → j < length seen → eqb (get_or seen i d) (get_or seen j d) ≡ false = λ i j d l u.
          ne_eqb _ _
          (λ e.
          let whole : j - i + i ≡ j = omega arith in
          none (j - i) (omega arith) (omega arith)
          (sym (after_once m f a i x (iterate (turn f a) (j - i) x) w h (after_within m f a (j - i) x w h)
          (sym (at i d (omega arith)) ∙ e ∙ at j d (omega arith) ∙ ap (λ t. iterate (turn f a) t x) (sym whole) ∙ after-add (turn f a) (j - i) i x)))) in
          let few = length-le_from_distinct_below seen m (IsDistinct-from_apart eqb seen apart)
          (any_below seen m (λ i l. let s = at i 0 (omega arith) in let u = after_within m f a i x w h in omega arith)) in
          absurd (omega arith)
    ]

after-times : (step : ℕ → ℕ) (p q x : ℕ) → iterate step p x ≡ x → iterate step (p * q) x ≡ x
after-times step p zero x e = let z : p * 0 ≡ 0 = omega arith in ap (λ i. iterate step i x) z
after-times step p (suc q) x e = let i0 = after-times step p q x e in grind (arith, i0, after-add)

-- each word of the walk is among the first m
pub least_all : (m : ℕ) (f a : ℕ → ℕ) (k x : ℕ) → Walks m f a → x < m → least_from (turn f a) (m - 1) x ≤ iterate (turn f a) k x
least_all m f a k x w h =
    let p = period m f a x w h in
    let pos : 0 < p.0 = omega (arith, p.1) in
    let r : ℕ = k % p.0 in
    let whole : p.0 * (k / p.0) + k % p.0 ≡ k = omega (arith, pos) in
    let small : k % p.0 < p.0 = omega (arith, pos) in
    let same : iterate (turn f a) k x ≡ iterate (turn f a) (k % p.0) x =
    ap (λ i. iterate (turn f a) i x) (sym whole) ∙ after-add (turn f a) (p.0 * (k / p.0)) (k % p.0) x
    ∙ ap (iterate (turn f a) (k % p.0)) (after-times (turn f a) p.0 (k / p.0) x p.3) in
    let le = least_le (turn f a) (m - 1) (k % p.0) x (omega (arith, p.2, small)) in
    omega (arith, le, same)

-- from each word of a walk there is a way back to its start
pub way_back : (m : ℕ) (f a : ℕ → ℕ) (k x : ℕ) → Walks m f a → x < m → (j : ℕ) × (iterate (turn f a) j (iterate (turn f a) k x) ≡ x)
way_back m f a k x w h =
    let p = period m f a x w h in
    let more : k * 1 ≤ k * p.0 = mul-le-mul_left k p.1 in
    let comm : k * p.0 ≡ p.0 * k = mul_comm k p.0 in
    let whole : k + (p.0 * k - k) ≡ p.0 * k = omega (arith, more, comm) in
    (p.0 * k - k, sym (after-add (turn f a) k (p.0 * k - k) x) ∙ ap (λ i. iterate (turn f a) i x) whole ∙ after-times (turn f a) p.0 k x p.3)

-- the words of a walk have one least word
pub least_same : (m : ℕ) (f a : ℕ → ℕ) (k x : ℕ) → Walks m f a → x < m → least_from (turn f a) (m - 1) (iterate (turn f a) k x) ≡ least_from (turn f a) (m - 1) x
least_same m f a k x w h =
    let y : ℕ = iterate (turn f a) k x in
    let lx = least_is (turn f a) (m - 1) x in
    let ly = least_is (turn f a) (m - 1) (iterate (turn f a) k x) in
    let b = way_back m f a k x w h in
    let down = least_all m f a (k + ly.0) x w h in
    let up = least_all m f a (b.0 + lx.0) (iterate (turn f a) k x) w (after_within m f a k x w h) in
    let e1 = after-add (turn f a) k ly.0 x in
    let e2 : iterate (turn f a) (b.0 + lx.0) (iterate (turn f a) k x) ≡ iterate (turn f a) lx.0 x = after-add (turn f a) b.0 lx.0 (iterate (turn f a) k x) ∙ ap (iterate (turn f a) lx.0) b.1 in
    omega (arith, down, up, e1, e2, lx.1, ly.1)

-- ---- the walks of two partners have no word in common

pub mirror : (m : ℕ) (f a : ℕ → ℕ) (k x : ℕ) → Walks m f a → x < m → iterate (turn f a) k (f (iterate (turn f a) k x)) ≡ f x
mirror m f a zero x w h = refl
mirror m f a (suc k) x w h =
    let y : ℕ = iterate (turn f a) k x in
    let y_in = after_within m f a k x w h in
    let e : f (a (f (iterate (turn f a) (suc k) x))) ≡ f (iterate (turn f a) k x) =
    ap (λ v. f (a (f v))) (after-last (turn f a) k x)
    ∙ ap (λ v. f (a v)) (w.first.back (a (iterate (turn f a) k x)) (w.second.within (iterate (turn f a) k x) y_in))
    ∙ ap f (w.second.back (iterate (turn f a) k x) y_in) in
    ap (iterate (turn f a) k) e ∙ mirror m f a k x w h

halves : (k : ℕ) → (h : ℕ) × ((k ≡ h + h) ⊎ (k ≡ h + suc h))
halves k =
    elim (cases_eq (k % 2) 0) [
      | inl even ↦ (k / 2, inl (omega arith))
      | inr odd ↦ (k / 2, inr (omega arith))
    ]

pub apart : (m : ℕ) (f a : ℕ → ℕ) (k x : ℕ) → Walks m f a → x < m → iterate (turn f a) k x ≢ f x
apart m f a k x w l e =
    let h = halves k in
    let y : ℕ = iterate (turn f a) h.0 x in
    let y_in : iterate (turn f a) h.0 x < m = after_within m f a h.0 x w l in
    let there : iterate (turn f a) h.0 (f (iterate (turn f a) h.0 x)) ≡ iterate (turn f a) k x = mirror m f a h.0 x w l ∙ sym e in
    elim h.1 [
      | inl even ↦
          w.first.moves (iterate (turn f a) h.0 x) y_in
          (after_once m f a h.0 (f (iterate (turn f a) h.0 x)) (iterate (turn f a) h.0 x) w (w.first.within _ y_in) y_in
          (there ∙ ap (λ i. iterate (turn f a) i x) even ∙ after-add (turn f a) h.0 h.0 x))
      | inr odd ↦
          let past : f (iterate (turn f a) h.0 x) ≡ f (a (iterate (turn f a) h.0 x)) =
          after_once m f a h.0 (f (iterate (turn f a) h.0 x)) (f (a (iterate (turn f a) h.0 x))) w (w.first.within _ y_in) (w.first.within _ (w.second.within _ y_in))
          (there ∙ ap (λ i. iterate (turn f a) i x) odd ∙ after-add (turn f a) h.0 (suc h.0) x ∙ refl) in
          w.second.moves (iterate (turn f a) h.0 x) y_in (sym (pairing_once m f _ _ w.first y_in (w.second.within _ y_in) past))
    ]

pub least_apart : (m : ℕ) (f a : ℕ → ℕ) (x : ℕ) → Walks m f a → x < m → least_from (turn f a) (m - 1) (f x) ≢ least_from (turn f a) (m - 1) x
least_apart m f a x w h e =
    let lx = least_is (turn f a) (m - 1) x in
    let ly = least_is (turn f a) (m - 1) (f x) in
    let b = way_back m f a ly.0 (f x) w (w.first.within x h) in
    apart m f a (lx.0 + b.0) x w h
    (after-add (turn f a) lx.0 b.0 x ∙ ap (iterate (turn f a) b.0) (sym lx.1 ∙ sym e ∙ ly.1) ∙ b.1)

-- ---- the side of a word

abbrev pub side_by : ℕ → (ℕ → ℕ) → (ℕ → ℕ) → ℕ → Bool
side_by m f step x = ltb (least_from step (m - 1) (f x)) (least_from step (m - 1) x)

tests : (x y : ℕ) → x ≢ y → ltb x y ≡ not (ltb y x)
tests x y ne = grind arith

pub side_first : (m : ℕ) (f a : ℕ → ℕ) (x : ℕ) → Walks m f a → x < m → side_by m f (turn f a) (f x) ≡ not (side_by m f (turn f a) x)
side_first m f a x w h = grind (arith, least_from, tests, least_apart)

-- a step keeps the side
pub side_turn : (m : ℕ) (f a : ℕ → ℕ) (x : ℕ) → Walks m f a → x < m → side_by m f (turn f a) (f (a x)) ≡ side_by m f (turn f a) x
side_turn m f a x w h =
    let at : a x < m = w.second.within x h in
    let one : least_from (turn f a) (m - 1) (f (a x)) ≡ least_from (turn f a) (m - 1) x = least_same m f a 1 x w h in
    let two : least_from (turn f a) (m - 1) (f (f (a x))) ≡ least_from (turn f a) (m - 1) (f x) =
    ap (least_from (turn f a) (m - 1)) (w.first.back (a x) at)
    ∙ sym (least_same m f a 1 (a x) w at)
    ∙ ap (λ v. least_from (turn f a) (m - 1) (f v)) (w.second.back x h) in
    ap (λ v. ltb v (least_from (turn f a) (m - 1) (f (a x)))) two ∙ ap (ltb (least_from (turn f a) (m - 1) (f x))) one

pub side_second : (m : ℕ) (f a : ℕ → ℕ) (x : ℕ) → Walks m f a → x < m → side_by m f (turn f a) (a x) ≡ not (side_by m f (turn f a) x)
side_second m f a x w h = grind (arith, side_first, side_turn)
