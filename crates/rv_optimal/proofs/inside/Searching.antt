-- What a binary search that finds nothing says, and what loops over levels keep.
use Rattle.std.proofs.Common.{◌≡◌, ℕ, ◌<◌, ◌≤◌, false, List, Contains, Ok, Err, Result, is_ok, length, get_or, sym, ◌∙◌, ap, subst, inl, inr, arith}
use Rattle.std.specs.List.Sorted.{IsNonDecreasing, IsStrictlyIncreasing, IsBinarySearchResult}
use Rattle.std.proofs.Common.{nat_cmp}
use Rattle.std.proofs.lemmas.Bool.{cases_lt, false≢true}
use Rattle.std.proofs.lemmas.List.{get_or_default}
use Rattle.std.proofs.lemmas.List.Kept.{AllPairs-from_increasing}
use Rattle.std.proofs.lemmas.List.Sorted.{searched}
use Rattle.rv_optimal.specs.inside.Alike.{least}
use Rattle.rv_optimal.specs.inside.Levels.{AreApart}
use Rattle.rv_optimal.specs.declared.alike.Alike.{Alike}

pub not_there : (keys : List ℕ) (key : ℕ) (r : Result ℕ ℕ) → IsNonDecreasing keys → IsBinarySearchResult (λ y. nat_cmp y key) keys r → is_ok r ≡ false → Contains keys key → ⊥
not_there keys key (Ok i) rising position e c = absurd (false≢true (sym e))
not_there keys key (Err i) rising position e c =
    let parts = searched keys key (Err i) position (λ i j le lt. rising i j 0 le lt) in
    let k : ℕ = c.0 in
    let is : get_or keys k 0 ≡ key = get_or_default keys k 0 key c.1 ∙ c.2 in
    elim (cases_lt k i) [
      | inl before ↦ (let less : get_or keys k 0 < key = parts.1 k before in omega (arith, less, is))
      | inr after ↦ (let more : key < get_or keys k 0 = parts.2 k after c.1 in omega (arith, more, is))
    ]

pub rising_from_strict : (keys : List ℕ) → IsStrictlyIncreasing keys → IsNonDecreasing keys
rising_from_strict keys up = λ i j d le lt.
    elim (cases_lt i j) as (λ _. get_or keys i d ≤ get_or keys j d) [
      | inl less ↦ (let h : get_or keys i d < get_or keys j d = AllPairs-from_increasing keys up i j d less lt in omega (arith, h))
      | inr more ↦ (let e : i ≡ j = omega (arith, le, more) in let f : get_or keys i d ≡ get_or keys j d = ap (λ k. get_or keys k d) e in omega (arith, f))
    ]

pub apart_by_search : (alike : Alike) (a b : List ℕ) (n : ℕ) → length b ≤ n → ((k : ℕ) → k < n → Contains a (least alike (get_or b k 0)) → ⊥) → AreApart alike a b
apart_by_search alike a b n all none key in_a in_b =
    let k : ℕ = in_b.0 in
    let is : get_or b k 0 ≡ key = get_or_default b k 0 key in_b.1 ∙ in_b.2 in
    none k (omega (arith, in_b.1, all)) (subst (λ x. Contains a (least alike x)) (sym is) in_a)

-- what holds of all moves holds of each
pub none_leads : (level moves : List ℕ) (f : ℕ → ℕ) (n : ℕ) → length moves ≤ n → ((k : ℕ) → k < n → Contains level (f (get_or moves k 0)) → ⊥) → (step : ℕ) → Contains moves step → Contains level (f step) → ⊥
none_leads level moves f n all none step in_moves in_level =
    let k : ℕ = in_moves.0 in
    let is : get_or moves k 0 ≡ step = get_or_default moves k 0 step in_moves.1 ∙ in_moves.2 in
    none k (omega (arith, in_moves.1, all)) (subst (λ s. Contains level (f s)) (sym is) in_level)

pub not_at : (level : List ℕ) (x y : ℕ) → x ≡ y → (Contains level x → ⊥) → Contains level y → ⊥
not_at level x y same none there = none (subst (Contains level) (sym same) there)
