-- Lists that are completed by the numbers that they lack.
use Rattle.std.proofs.Common.{◌≡◌, ◌≢◌, ℕ, zero, suc, ◌+◌, ◌<◌, ◌≤◌, Bool, true, false, not, ◌&&◌, cond, eqb, List, [], ◌∷◌, ◌++◌, length, get_or, take, refl, sym, ◌∙◌, ap, subst, inl, inr, arith, eq-eqb, ne_eqb, add-one, append_assoc, append-nil}
use Rattle.std.specs.List.{filter, list_any, range_with_len, IsDistinct}
use Rattle.std.proofs.lemmas.Bool.{cases_Bool, or_cases, or_from, or_left, or_right, and_parts, and_from, eqb-true, eqb-false, false≢true, not_from_false}
use Rattle.std.proofs.lemmas.Cmp.{nat_eq_equiv}
use Rattle.std.proofs.lemmas.List.{get_or_default, take_all}
use Rattle.std.proofs.lemmas.List.Folds.{list_any-append}
use Rattle.std.proofs.lemmas.Map.Keys.{IsDistinct-push, IsDistinct-from_apart, apart_from_distinct}
use Rattle.std.proofs.lemmas.Map.Steps.{length-le_from_distinct_below, le-length_from_below}
use Rattle.std.proofs.lemmas.Map.Views.{any-filter_same}
use Rattle.rv_gate.proofs.Ranges.{filter-suc}
use Rattle.rv_perm.specs.Perm.{IsEachOnce}
use Rattle.rv_embed.specs.Embedding.{remaining, completed}

-- a number stands in the list
abbrev pub stands_in : List ℕ → ℕ → Bool
stands_in numbers y = list_any (λ x. eqb y x) numbers

abbrev pub lacks : List ℕ → ℕ → Bool
lacks numbers y = not (stands_in numbers y)

-- ---- numbers in a row

stands_in_range : (a n y : ℕ) → stands_in (range_with_len a n) y ≡ true → (a ≤ y) × (y < a + n)
stands_in_range a zero y h = absurd (false≢true h)
stands_in_range a (suc n) y h = let i0 = stands_in_range (a + 1) n y in grind (arith, i0, eqb-true)

in_range : (a n y : ℕ) → a ≤ y → y < a + n → stands_in (range_with_len a n) y ≡ true
in_range a zero y l h = absurd (omega arith)
in_range a (suc n) y l h = let i0 = in_range (a + 1) n y in grind (arith, i0, or_left, eq-eqb, or_right)

-- ---- lists without repeats, of numbers below a bound

pub record IsApart (numbers : List ℕ) (count : ℕ) : Type 0 where
  pub below : (k : ℕ) → k < length numbers → get_or numbers k 0 < count
  pub apart : (j k : ℕ) → j < k → k < length numbers → get_or numbers j 0 ≢ get_or numbers k 0

pub stands_below : (xs : List ℕ) (count : ℕ) → ((k : ℕ) → k < length xs → get_or xs k 0 < count) → (y : ℕ) → stands_in xs y ≡ true → y < count
stands_below [] count h y on = absurd (false≢true on)
stands_below (x ∷ xs) count h y on =
    elim (or_cases (eqb y x) (stands_in xs y) on) [
      | inl here ↦ (let e : y ≡ x = eqb-true y x here in let b : x < count = h 0 (omega arith) in omega arith)
      | inr later ↦ stands_below xs count (λ k l. h (suc k) (omega arith)) y later
    ]

pub stands_at : (xs : List ℕ) (k : ℕ) → k < length xs → stands_in xs (get_or xs k 0) ≡ true
stands_at [] k h = absurd (omega arith)
stands_at (x ∷ xs) zero h = or_left (eqb x x) (stands_in xs x) (eq-eqb x x refl)
stands_at (x ∷ xs) (suc k) h = or_right (eqb (get_or xs k 0) x) _ (stands_at xs k (omega arith))

distinct : (numbers : List ℕ) (count : ℕ) → IsApart numbers count → IsDistinct eqb numbers
distinct numbers count a =
    IsDistinct-from_apart eqb numbers (λ i j d l h.
    let i_in : i < length numbers = omega arith in
    ne_eqb _ _ (λ e. a.apart i j l h (get_or_default numbers i 0 d i_in ∙ e ∙ get_or_default numbers j d 0 h)))

-- ---- the completed list

-- the numbers below n that a list lacks
abbrev pub lacking : List ℕ → ℕ → List ℕ
lacking numbers n = filter (lacks numbers) (range_with_len 0 n)

lacking_push : (numbers : List ℕ) (n : ℕ) → lacking numbers (n + 1) ≡ lacking numbers n ++ filter (lacks numbers) (n ∷ [])
lacking_push numbers n = rw (add-one n) (filter-suc (lacks numbers) n)

pub lacking_kept : (numbers : List ℕ) (n : ℕ) → stands_in numbers n ≡ true → lacking numbers (n + 1) ≡ lacking numbers n
lacking_kept numbers n h = grind (arith, lacking_push, append-nil)

pub lacking_more : (numbers : List ℕ) (n : ℕ) → stands_in numbers n ≡ false → lacking numbers (n + 1) ≡ lacking numbers n ++ n ∷ []
lacking_more numbers n h = lacking_push numbers n ∙ ap (λ b. lacking numbers n ++ cond (not b) (n ∷ []) []) h

stands_in_lacking : (numbers : List ℕ) (n y : ℕ) → stands_in (lacking numbers n) y ≡ (lacks numbers y && stands_in (range_with_len 0 n) y)
stands_in_lacking numbers n y = any-filter_same (eqb y) (lacks numbers) (lacks numbers y) (λ k e. ap (lacks numbers) (sym (eqb-true y k e))) (range_with_len 0 n)

-- a number that a list has, or lacks
stands_in_both : (numbers : List ℕ) (n y : ℕ) → y < n → stands_in (numbers ++ lacking numbers n) y ≡ true
stands_in_both numbers n y h =
    grind (arith, list_any-append, cases_Bool, or_left, or_right, stands_in_lacking, and_from, not_from_false, in_range)

both_below : (numbers : List ℕ) (count y : ℕ) → IsApart numbers count → stands_in (numbers ++ lacking numbers count) y ≡ true → y < count
both_below numbers count y a on =
    elim (or_cases (stands_in numbers y) (stands_in (lacking numbers count) y) (sym (list_any-append (eqb y) numbers (lacking numbers count)) ∙ on)) [
      | inl there ↦ stands_below numbers count a.below y there
      | inr later ↦
          (let parts : (lacks numbers y ≡ true) × (stands_in (range_with_len 0 count) y ≡ true) = and_parts _ _ (sym (stands_in_lacking numbers count y) ∙ later) in
          let r = stands_in_range 0 count y parts.1 in
          omega (arith, r.1))
    ]

both_distinct : (numbers : List ℕ) (count n : ℕ) → IsApart numbers count → IsDistinct eqb (numbers ++ lacking numbers n)
both_distinct numbers count zero a = let P : List ℕ → Type 0 = IsDistinct eqb in subst P (sym (append-nil numbers)) (distinct numbers count a)
both_distinct numbers count (suc n) a =
    let P : List ℕ → Type 0 = λ l. IsDistinct eqb (numbers ++ l) in
    let so_far : IsDistinct eqb (numbers ++ lacking numbers n) = both_distinct numbers count n a in
    subst P (ap (lacking numbers) (add-one n))
    (elim (cases_Bool (stands_in numbers n)) [
      | inl there ↦ subst P (sym (lacking_kept numbers n there)) so_far
      | inr none ↦
          (let Q : List ℕ → Type 0 = IsDistinct eqb in
          subst P (sym (lacking_more numbers n none))
          (subst Q (append_assoc numbers (lacking numbers n) (n ∷ []))
          (IsDistinct-push nat_eq_equiv (numbers ++ lacking numbers n) n so_far
          (list_any-append (eqb n) numbers (lacking numbers n) ∙ or_from _ _ none (above n)))))
    ])
  where
    above : (n : ℕ) → stands_in (lacking numbers n) n ≡ false
    above n =
        elim (cases_Bool (stands_in (lacking numbers n) n)) [
          | inl on ↦
              (let parts : (lacks numbers n ≡ true) × (stands_in (range_with_len 0 n) n ≡ true) = and_parts _ _ (sym (stands_in_lacking numbers n n) ∙ on) in
              let r = stands_in_range 0 n n parts.1 in
              absurd (omega (arith, r.1)))
          | inr off ↦ off
        ]

-- the flags of the numbers below the count that stand among the first n
pub record Marked (numbers : List ℕ) (flags : List Bool) (count n : ℕ) : Type 0 where
  pub len : length flags ≡ count
  pub flagged : (y : ℕ) → y < count → get_or flags y false ≡ stands_in (take n numbers) y

pub Marked-all : (numbers : List ℕ) (flags : List Bool) (count y : ℕ) → Marked numbers flags count (length numbers) → y < count → get_or flags y false ≡ stands_in numbers y
Marked-all numbers flags count y m h = m.flagged y h ∙ ap (λ l. stands_in l y) (take_all (length numbers) numbers (omega arith))

-- a completed list has each number below the count once
pub record IsComplete (numbers : List ℕ) (count : ℕ) : Type 0 where
  pub len : length numbers ≡ count
  pub once : IsEachOnce numbers
  pub all : (y : ℕ) → y < count → stands_in numbers y ≡ true

pub completed-is : (count : ℕ) (numbers : List ℕ) → IsApart numbers count → IsComplete (completed count numbers) count
unfolding remaining
completed-is count numbers a =
    let whole : List ℕ = numbers ++ lacking numbers count in
    let apart : IsDistinct eqb whole = both_distinct numbers count count a in
    let few : length whole ≤ count = length-le_from_distinct_below whole count apart (λ y on. both_below numbers count y a on) in
    let many : count ≤ length whole = le-length_from_below whole count (λ y h. stands_in_both numbers count y h) in
    let len : length whole ≡ count = omega arith in
    record {
      len = len;
      once = (
        λ x h. rw len (both_below numbers count (get_or whole x 0) a (stands_at whole x h)),
        λ x y l h e. eqb-false _ _ (apart_from_distinct eqb whole x y 0 apart l h) e,
      );
      all = λ y h. stands_in_both numbers count y h;
    }
