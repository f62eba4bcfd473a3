-- A permutation and its inverse, and what gates make of both.
use Rattle.std.proofs.Common.{◌≡◌, ◌≢◌, ℕ, zero, suc, ◌^◌, ◌<◌, false, eqb, List, ◌∷◌, ◌++◌, length, map, get_or, set, take, drop, sym, ◌∙◌, ap, inl, inr, arith, ne_eqb, eq-eqb, ext_get_or, length-set, get_or-set_same, get_or-set_other}
use Rattle.std.specs.Prelude.{◌⊎◌}
use Rattle.std.specs.List.{IsDistinct}
use Rattle.std.proofs.lemmas.Bool.{cases_eq}
use Rattle.std.proofs.lemmas.List.{get_or-map, get_or_default, length-map, take_at}
use Rattle.std.proofs.lemmas.List.Sums.{position_or_len_is}
use Rattle.std.proofs.lemmas.List.FromFn.{length-map-range_with_len, get_or-map-range_with_len}
use Rattle.std.proofs.lemmas.Map.Keys.{IsDistinct-from_apart}
use Rattle.std.proofs.lemmas.Map.Steps.{length-le_from_distinct_below}
use Rattle.rv_gate.specs.Gate.{act_on_number, FitsIn, IsGate, IsFlip}
use Rattle.rv_gate.specs.declared.gate.Shape.{Shape}
use Rattle.rv_gate.proofs.inside.GateLemmas.{act_on_number-lt, act_on_number-twice}
use Rattle.rv_perm.specs.Perm.{IsPerm, IsEachOnce, preimage_of, reindexed}
use Rattle.rv_perm.specs.inside.Places.{AreInverse}
use Rattle.rv_perm.proofs.Images.{perm_moved}
use Rattle.rv_gate.proofs.Lists.{any_below}

-- ---- each number stands somewhere

stands_at : (images : List ℕ) (y m : ℕ) → ((x : ℕ) × (x < m) × (get_or images x 0 ≡ y)) ⊎ ((x : ℕ) → x < m → get_or images x 0 ≢ y)
stands_at images y zero = inr (λ x h. absurd (omega arith))
stands_at images y (suc m) =
    elim (stands_at images y m) [
      | inl there ↦ inl (there.0, omega (arith, there.1), there.2)
      | inr none ↦
          (elim (cases_eq (get_or images m 0) y) [
            | inl e ↦ inl (m, omega arith, e)
            | inr ne ↦ inr (λ x h e. elim (cases_eq x m) [ inl at ↦ ne (ap (λ k. get_or images k 0) (sym at) ∙ e) | inr other ↦ none x (omega arith) e ])
          ])
    ]

missing : (images : List ℕ) (y : ℕ) → IsEachOnce images → y < length images → ((x : ℕ) → x < length images → get_or images x 0 ≢ y) → ⊥
missing images y p lt none =
    let distinct : IsDistinct eqb (y ∷ images) = IsDistinct-from_apart eqb (y ∷ images) (λ i j d l h. apart i j d l h) in
    let few = length-le_from_distinct_below (y ∷ images) (length images) distinct (any_below (y ∷ images) (length images) below) in
    omega arith
  where
    below : (x : ℕ) → x < length (y ∷ images) → get_or (y ∷ images) x 0 < length images
    below zero h = lt
    below (suc x) h = p.0 x (omega arith)

    apart : (i j d : ℕ) → i < j → j < length (y ∷ images) → eqb (get_or (y ∷ images) i d) (get_or (y ∷ images) j d) ≡ false
    apart i zero d l h = absurd (omega arith)
    apart zero (suc j) d l h =
        let j_in : j < length images = omega arith in
        ne_eqb _ _ (λ e. none j j_in (get_or_default images j 0 d j_in ∙ sym e))
    apart (suc i) (suc j) d l h =
        let j_in : j < length images = omega arith in
        let i_in : i < length images = omega arith in
        ne_eqb _ _ (λ e. p.1 i j (omega arith) j_in (get_or_default images i 0 d i_in ∙ e ∙ get_or_default images j d 0 j_in))

-- a number below the length stands somewhere
pub stands_once : (images : List ℕ) (y : ℕ) → IsEachOnce images → y < length images → (x : ℕ) × (x < length images) × (get_or images x 0 ≡ y)
stands_once images y p lt =
    elim (stands_at images y (length images)) [
      | inl there ↦ there
      | inr none ↦ absurd (missing images y p lt none)
    ]

-- two places with one number are one
pub place_once : (images : List ℕ) (x y : ℕ) → IsEachOnce images → x < length images → y < length images → get_or images x 0 ≡ get_or images y 0 → x ≡ y
place_once images x y once hx hy e = grind arith

pub onto : (n : ℕ) (images : List ℕ) (y : ℕ) → IsPerm n images → y < 2 ^ n → (x : ℕ) × (x < 2 ^ n) × (get_or images x 0 ≡ y)
onto n images y p lt = let s = stands_once images y p.3 (omega (arith, p.2)) in (s.0, omega (arith, s.1, p.2), s.2)

-- ---- the place of a number

-- a number that stands at x, and at no place before
pub preimage_of-first : (xs : List ℕ) (x y : ℕ) → ((j : ℕ) → j < x → get_or xs j 0 ≢ y) → x < length xs → get_or xs x 0 ≡ y → preimage_of xs y ≡ x
unfolding preimage_of
preimage_of-first xs x y none h e = position_or_len_is (λ v. eqb v y) xs x 0 (omega arith) (λ j l. ne_eqb _ _ (none j l)) (λ within. eq-eqb _ _ e)

pub preimage_of-is : (xs : List ℕ) (x y : ℕ) → ((i j : ℕ) → i < j → j < length xs → get_or xs i 0 ≢ get_or xs j 0) → x < length xs → get_or xs x 0 ≡ y → preimage_of xs y ≡ x
preimage_of-is xs x y apart h e = preimage_of-first xs x y (λ j l s. apart j x l h (s ∙ sym e)) h e

-- ---- the inverse of a permutation

pub inverse_perm : (n : ℕ) (images preimages : List ℕ) → IsPerm n images → AreInverse images preimages → IsPerm n preimages
inverse_perm n images preimages p inv = (
  p.0,
  p.1,
  inv.len ∙ p.2,
  (
    λ y h. let b = inv.below y (omega (arith, inv.len)) in omega (arith, inv.len),
    λ x y l h e.
        let hx : x < length images = omega (arith, inv.len) in
        let hy : y < length images = omega (arith, inv.len) in
        let same : x ≡ y = sym (inv.there x hx) ∙ ap (λ k. get_or images k 0) e ∙ inv.there y hy in
        omega arith,
  ),
)

pub inverse_back : (n : ℕ) (images preimages : List ℕ) → IsPerm n images → AreInverse images preimages → AreInverse preimages images
inverse_back n images preimages p inv = record {
  len = sym inv.len;
  within = λ y h. let b = inv.below y (omega (arith, inv.len)) in omega (arith, inv.len);
  below = λ x h. let b = p.3.0 x (omega (arith, inv.len)) in omega (arith, inv.len);
  back = λ y h. inv.there y (omega (arith, inv.len));
  there = λ x h. inv.back x (omega (arith, inv.len));
}

-- ---- a table that is read at other places

pub length-reindexed : (f : ℕ → ℕ) (xs : List ℕ) → length (reindexed f xs) ≡ length xs
unfolding reindexed
length-reindexed f xs = length-map-range_with_len (λ x. get_or xs (f x) 0) 0 (length xs)

pub get_or-reindexed : (f : ℕ → ℕ) (xs : List ℕ) (x : ℕ) → x < length xs → get_or (reindexed f xs) x 0 ≡ get_or xs (f x) 0
unfolding reindexed
get_or-reindexed f xs x h = get_or-map-range_with_len (λ v. get_or xs (f v) 0) 0 (length xs) x x 0 h (omega arith)

-- ---- a gate on the images

pub inverse_out : (g : Shape) (n : ℕ) (images preimages : List ℕ) → IsFlip g → IsGate g → FitsIn g n → IsPerm n images → AreInverse images preimages
    → AreInverse (map (act_on_number g n) images) (reindexed (act_on_number g n) preimages)
inverse_out g n images preimages f v fits p inv =
    let len : length (map (act_on_number g n) images) ≡ length images = length-map images (act_on_number g n) in
    let at : (x : ℕ) → x < length images → get_or (map (act_on_number g n) images) x 0 ≡ act_on_number g n (get_or images x 0) = λ x h. get_or-map (act_on_number g n) images x 0 0 h in
    let from : (y : ℕ) → y < length images → get_or (reindexed (act_on_number g n) preimages) y 0 ≡ get_or preimages (act_on_number g n y) 0 = λ y h. get_or-reindexed (act_on_number g n) preimages y (omega (arith, inv.len)) in
    let small : (y : ℕ) → act_on_number g n y < length images = λ y. let lt = act_on_number-lt g n y in omega (arith, p.2) in
    record {
      len = length-reindexed (act_on_number g n) preimages ∙ inv.len ∙ sym len;
      within = λ x h. let e = at x (omega arith) in let lt = act_on_number-lt g n (get_or images x 0) in omega (arith, p.2);
      below = λ y h. let b = inv.below (act_on_number g n y) (small y) in let e = from y (omega arith) in omega arith;
      back = λ x h.
          let x_in : x < length images = omega arith in
          ap (λ y. get_or (reindexed (act_on_number g n) preimages) y 0) (at x x_in)
          ∙ from (act_on_number g n (get_or images x 0)) (small (get_or images x 0))
          ∙ ap (λ y. get_or preimages y 0) (act_on_number-twice g n (get_or images x 0) f v fits (rw (← p.2) (p.3.0 x x_in)))
          ∙ inv.back x x_in;
      there = λ y h.
          let y_in : y < length images = omega arith in
          let before : ℕ = get_or preimages (act_on_number g n y) 0 in
          ap (λ x. get_or (map (act_on_number g n) images) x 0) (from y y_in)
          ∙ at before (inv.below (act_on_number g n y) (small y))
          ∙ ap (act_on_number g n) (inv.there (act_on_number g n y) (small y))
          ∙ act_on_number-twice g n y f v fits (omega (arith, p.2));
    }

-- ---- a gate on the places

pub record InIn (g : Shape) (n : ℕ) (images preimages : List ℕ) : Type 0 where
  pub perm : IsPerm n (reindexed (act_on_number g n) images)
  pub inverse : AreInverse (reindexed (act_on_number g n) images) (map (act_on_number g n) preimages)

pub inverse_in : (g : Shape) (n : ℕ) (images preimages : List ℕ) → IsFlip g → IsGate g → FitsIn g n → IsPerm n images → AreInverse images preimages → InIn g n images preimages
inverse_in g n images preimages f v fits p inv =
    let q : IsPerm n preimages = inverse_perm n images preimages p inv in
    let out = inverse_out g n preimages images f v fits q (inverse_back n images preimages p inv) in
    let moved_perm : IsPerm n (map (act_on_number g n) preimages) = perm_moved g n preimages f v fits q in
    record {
      perm = inverse_perm n (map (act_on_number g n) preimages) (reindexed (act_on_number g n) images) moved_perm out;
      inverse = inverse_back n (map (act_on_number g n) preimages) (reindexed (act_on_number g n) images) moved_perm out;
    }

-- ---- tables that were written through

-- what a vector holds after a slice of all of it was written
pub written : (size : ℕ) (new made old : List ℕ) → new ≡ made → size ≡ length made → take size (new ++ drop (length new) old) ≡ made
written size new made old e len = take_at new (drop (length new) old) size (ap length e ∙ sym len) ∙ e

pub kept_tables : (n : ℕ) (images images' preimages preimages' : List ℕ) → images' ≡ images → preimages' ≡ preimages → IsPerm n images → AreInverse images preimages
    → IsPerm n images' × AreInverse images' preimages'
kept_tables n images images' preimages preimages' ei ep p inv = rw (ei, ep) (p, inv)

-- ---- two places exchanged

-- the inverse of a table in which two places are exchanged
pub exchanged : (table inverse : List ℕ) (a b : ℕ) → a < length table → b < length table → a ≢ b → AreInverse table inverse
    → AreInverse (set (set table a (get_or table b 0)) b (get_or table a 0)) (set (set inverse (get_or table b 0) a) (get_or table a 0) b)
exchanged table inverse a b a_in b_in ne inv =
    let first : ℕ = get_or table a 0 in
    let second : ℕ = get_or table b 0 in
    let new : List ℕ = set (set table a second) b first in
    let back : List ℕ = set (set inverse second a) first b in
    let apart : first ≢ second = λ e. ne (sym (inv.back a a_in) ∙ ap (λ v. get_or inverse v 0) e ∙ inv.back b b_in) in
    let first_in : first < length table = inv.within a a_in in
    let second_in : second < length table = inv.within b b_in in
    let new_b : get_or new b 0 ≡ first = get_or-set_same (set table a second) b first 0 (omega (arith, length-set table a second)) in
    let new_a : get_or new a 0 ≡ second = get_or-set_other (set table a second) b a first 0 ne ∙ get_or-set_same table a second 0 a_in in
    let new_rest : (x : ℕ) → x ≢ a → x ≢ b → get_or new x 0 ≡ get_or table x 0 = λ x xa xb.
    get_or-set_other (set table a second) b x first 0 xb ∙ get_or-set_other table a x second 0 xa in
    let back_first : get_or back first 0 ≡ b = get_or-set_same (set inverse second a) first b 0 (omega (arith, length-set inverse second a, inv.len)) in
    let back_second : get_or back second 0 ≡ a = get_or-set_other (set inverse second a) first second b 0 (λ e. apart (sym e)) ∙ get_or-set_same inverse second a 0 (omega (arith, inv.len)) in
    let back_rest : (y : ℕ) → y ≢ first → y ≢ second → get_or back y 0 ≡ get_or inverse y 0 = λ y yf ys.
    get_or-set_other (set inverse second a) first y b 0 yf ∙ get_or-set_other inverse second y a 0 ys in
    let len : length new ≡ length table = length-set (set table a second) b first ∙ length-set table a second in
    record {
      len = length-set (set inverse second a) first b ∙ length-set inverse second a ∙ inv.len ∙ sym len;
      within = λ x h.
          let x_in : x < length table = omega arith in
          elim (cases_eq x b) [
            | inl at_b ↦ (let e : get_or new x 0 ≡ first = ap (λ v. get_or new v 0) at_b ∙ new_b in omega arith)
            | inr xb ↦ elim (cases_eq x a) [
              | inl at_a ↦ (let e : get_or new x 0 ≡ second = ap (λ v. get_or new v 0) at_a ∙ new_a in omega arith)
              | inr xa ↦ (let e = new_rest x xa xb in let old = inv.within x x_in in omega arith)
            ]
          ];
      below = λ y h.
          let y_in : y < length table = omega arith in
          elim (cases_eq y first) [
            | inl at_first ↦ (let e : get_or back y 0 ≡ b = ap (λ v. get_or back v 0) at_first ∙ back_first in omega arith)
            | inr yf ↦ elim (cases_eq y second) [
              | inl at_second ↦ (let e : get_or back y 0 ≡ a = ap (λ v. get_or back v 0) at_second ∙ back_second in omega arith)
              | inr ys ↦ (let e = back_rest y yf ys in let old = inv.below y y_in in omega arith)
            ]
          ];
      back = λ x h.
          let x_in : x < length table = omega arith in
          elim (cases_eq x b) [
            | inl at_b ↦ ap (λ v. get_or back (get_or new v 0) 0) at_b ∙ ap (λ v. get_or back v 0) new_b ∙ back_first ∙ sym at_b
            | inr xb ↦ elim (cases_eq x a) [
              | inl at_a ↦ ap (λ v. get_or back (get_or new v 0) 0) at_a ∙ ap (λ v. get_or back v 0) new_a ∙ back_second ∙ sym at_a
              | inr xa ↦
                  let old = inv.back x x_in in
                  let yf : get_or table x 0 ≢ first = λ e. xa (sym old ∙ ap (λ v. get_or inverse v 0) e ∙ inv.back a a_in) in
                  let ys : get_or table x 0 ≢ second = λ e. xb (sym old ∙ ap (λ v. get_or inverse v 0) e ∙ inv.back b b_in) in
                  ap (λ v. get_or back v 0) (new_rest x xa xb) ∙ back_rest (get_or table x 0) yf ys ∙ old
            ]
          ];
      there = λ y h.
          let y_in : y < length table = omega arith in
          elim (cases_eq y first) [
            | inl at_first ↦ ap (λ v. get_or new (get_or back v 0) 0) at_first ∙ ap (λ v. get_or new v 0) back_first ∙ new_b ∙ sym at_first
            | inr yf ↦ elim (cases_eq y second) [
              | inl at_second ↦ ap (λ v. get_or new (get_or back v 0) 0) at_second ∙ ap (λ v. get_or new v 0) back_second ∙ new_a ∙ sym at_second
              | inr ys ↦
                  let old = inv.there y y_in in
                  let xa : get_or inverse y 0 ≢ a = λ e. yf (sym old ∙ ap (λ v. get_or table v 0) e) in
                  let xb : get_or inverse y 0 ≢ b = λ e. ys (sym old ∙ ap (λ v. get_or table v 0) e) in
                  ap (λ v. get_or new v 0) (back_rest y yf ys) ∙ new_rest (get_or inverse y 0) xa xb ∙ old
            ]
          ];
    }

-- a table has one inverse
pub one_inverse : (table one other : List ℕ) → AreInverse table one → AreInverse table other → one ≡ other
one_inverse table one other a b =
    ext_get_or 0 one other (a.len ∙ sym b.len)
    (λ y h.
    let y_in : y < length table = omega (arith, a.len) in
    ap (λ v. get_or one v 0) (sym (b.there y y_in)) ∙ a.back (get_or other y 0) (b.below y y_in))
