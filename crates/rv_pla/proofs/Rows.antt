-- The places of characters, as sets.
use Rattle.std.proofs.Common.{◌≡◌, ℕ, ◌+◌, ◌-◌, ◌*◌, ◌^◌, ◌<◌, ◌≤◌, Bool, true, false, ◌&&◌, cond, List, length, get_or, map, drop, refl, sym, ap, ◌∙◌, arith, drop-cons, add-one}
use Rattle.std.specs.List.{list_all}
use Rattle.std.proofs.Math.Nat.{pow-le-pow_right}
use Rattle.std.proofs.lemmas.List.{length-drop, length-map, drop_all, get_or-map}
use Rattle.rv_gate.specs.Word.{has, ones_of}
use Rattle.rv_gate.proofs.inside.Ones.{has-ones_of, ones_of-lt}
use Rattle.rv_pla.specs.Row.{either, places_of}

-- one place more in front
pub places_of-front : (a b : ℕ) (row : List ℕ) (i : ℕ) → i < length row
    → places_of a b (drop i row) ≡ cond (either a b (get_or row i 0)) 1 0 + 2 * places_of a b (drop (i + 1) row)
unfolding ones_of
places_of-front a b row i h = rw (add-one, drop-cons row i 0) refl

pub places_of-lt : (a b : ℕ) (row : List ℕ) → places_of a b row < 2 ^ length row
places_of-lt a b row = grind (arith, places_of, length-map, ones_of-lt)

-- the set has the places where a character stands
pub has-places_of : (a b : ℕ) (row : List ℕ) (j : ℕ) → j < length row → has (places_of a b row) j ≡ either a b (get_or row j 0)
has-places_of a b row j h = has-ones_of (map (either a b) row) j ∙ get_or-map (either a b) row j 0 false h

-- ---- the loop from the last place to the first

-- the set of the places from one on
pub record AreFrom (a b : ℕ) (row : List ℕ) (i set : ℕ) : Type 0 where
  pub are : set ≡ places_of a b (drop i row)
  pub few : set < 2 ^ (length row - i)

pub from_all : (a b : ℕ) (row : List ℕ) → AreFrom a b row (length row) 0
unfolding ones_of
from_all a b row =
    let none : length row - length row ≡ 0 = omega arith in
    record { are = rw (drop_all (length row) row (omega arith)) refl; few = rw none (omega arith) }

pub from_more : (a b : ℕ) (row : List ℕ) (i set new : ℕ) → 0 < i → i ≤ length row → AreFrom a b row i set
    → new ≡ cond (either a b (get_or row (i - 1) 0)) 1 0 + 2 * set → AreFrom a b row (i - 1) new
from_more a b row i set new some within so_far is =
    let back : i - 1 + 1 ≡ i = omega arith in
    let rest : places_of a b (drop (i - 1 + 1) row) ≡ set = ap (λ k. places_of a b (drop k row)) back ∙ sym so_far.are in
    let all : new ≡ places_of a b (drop (i - 1) row) = is ∙ sym (places_of-front a b row (i - 1) (omega arith) ∙ ap (λ n. cond (either a b (get_or row (i - 1) 0)) 1 0 + 2 * n) rest) in
    record { are = all; few = rw all (let h = places_of-lt a b (drop (i - 1) row) in rw length-drop at h) }

pub few_from : (a b : ℕ) (row : List ℕ) (i set : ℕ) → 0 < i → length row ≤ 16 → AreFrom a b row i set → set < 2 ^ 15
few_from a b row i set some short from =
    let p : 2 ^ (length row - i) ≤ 2 ^ 15 = pow-le-pow_right {n = 2} (omega arith) {i = length row - i} {j = 15} (omega arith) in omega (arith, from.few)

-- all places from one on
pub all_of_none : (p : ℕ → Bool) (row : List ℕ) → true ≡ list_all p (drop (length row) row)
all_of_none p row = rw (drop_all (length row) row (omega arith)) refl

all_front : (p : ℕ → Bool) (row : List ℕ) (i : ℕ) → i < length row → list_all p (drop i row) ≡ (p (get_or row i 0) && list_all p (drop (i + 1) row))
all_front p row i h = rw (add-one, drop-cons row i 0) refl

pub all_from : (p : ℕ → Bool) (row : List ℕ) (i : ℕ) (one so_far : Bool) → 0 < i → i ≤ length row
    → one ≡ p (get_or row (i - 1) 0) → so_far ≡ list_all p (drop i row) → (one && so_far) ≡ list_all p (drop (i - 1) row)
all_from p row i one so_far some within is rest = grind (arith, list_all, all_front)
