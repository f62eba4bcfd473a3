-- The characters of a row, as sets.
use Rattle.std.proofs.Common.{◌≡◌, ℕ, ◌+◌, ◌-◌, ◌*◌, ◌^◌, ◌<◌, ◌≤◌, Bool, false, cond, List, length, get_or, map, drop, refl, sym, ap, ◌∙◌, inl, inr, arith, drop-cons, add-one, nat_eq}
use Rattle.std.proofs.lemmas.Bool.{cases_eq, cases_lt, or_right, true≢false}
use Rattle.std.proofs.lemmas.Nat.{pow_below}
use Rattle.std.proofs.lemmas.List.{length-drop, length-map, drop_all, get_or-map}
use Rattle.std.proofs.Math.ListN.{get_or-eq_default}
use Rattle.rv_gate.specs.Word.{ones_of, bit_of}
use Rattle.rv_gate.specs.Gate.{WantsControls}
use Rattle.rv_gate.proofs.inside.Ones.{has-ones_of, ones_of-lt}
use Rattle.rv_blif.specs.Logic.{IsProduct}
use Rattle.rv_blif.specs.Row.{is_bit, product_of}

-- one character more in front
pub ones_of-front : (p : ℕ → Bool) (row : List ℕ) (i : ℕ) → i < length row
    → ones_of (map p (drop i row)) ≡ cond (p (get_or row i 0)) 1 0 + 2 * ones_of (map p (drop (i + 1) row))
unfolding ones_of
ones_of-front p row i h = rw (add-one, drop-cons row i 0) refl

pub ones-lt : (p : ℕ → Bool) (row : List ℕ) → ones_of (map p row) < 2 ^ length row
ones-lt p row = rw (← length-map row p) (ones_of-lt (map p row))

-- the set of the places from one on
pub record AreFrom (p : ℕ → Bool) (row : List ℕ) (i set : ℕ) : Type 0 where
  pub are : set ≡ ones_of (map p (drop i row))
  pub few : set < 2 ^ (length row - i)

pub from_all : (p : ℕ → Bool) (row : List ℕ) → AreFrom p row (length row) 0
unfolding ones_of
from_all p row =
    let none : length row - length row ≡ 0 = omega arith in
    record { are = rw (drop_all (length row) row (omega arith)) refl; few = rw none (omega arith) }

pub from_more : (p : ℕ → Bool) (row : List ℕ) (i set new : ℕ) → 0 < i → i ≤ length row → AreFrom p row i set
    → new ≡ cond (p (get_or row (i - 1) 0)) 1 0 + 2 * set → AreFrom p row (i - 1) new
from_more p row i set new some within so_far is =
    let back : i - 1 + 1 ≡ i = omega arith in
    let rest : ones_of (map p (drop (i - 1 + 1) row)) ≡ set = ap (λ k. ones_of (map p (drop k row))) back ∙ sym so_far.are in
    let all : new ≡ ones_of (map p (drop (i - 1) row)) = is ∙ sym (ones_of-front p row (i - 1) (omega arith) ∙ ap (λ n. cond (p (get_or row (i - 1) 0)) 1 0 + 2 * n) rest) in
    record { are = all; few = rw all (let h = ones-lt p (drop (i - 1) row) in rw length-drop at h) }

pub few_from : (p : ℕ → Bool) (row : List ℕ) (i set : ℕ) → 0 < i → length row ≤ 16 → AreFrom p row i set → set < 2 ^ 15
few_from p row i set some short from =
    let few = from.few in
    elim (cases_eq (length row - i) 15) [
      | inl most ↦ rw most at few
      | inr less ↦ (let q = pow_below (length row - i) 15 (omega arith) in omega arith)
    ]

-- ---- products

wanted : (row : List ℕ) → WantsControls (ones_of (map is_bit row)) (ones_of (map (λ c. nat_eq c 49) row))
wanted row line on =
    let asked : List Bool = map is_bit row in
    let ones : List Bool = map (λ c. nat_eq c 49) row in
    elim (cases_lt line (length row)) [
      | inl lt ↦
          (let one = sym (has-ones_of ones line ∙ get_or-map (λ c. nat_eq c 49) row line 0 false lt) ∙ on in
          has-ones_of asked line ∙ get_or-map is_bit row line 0 false lt ∙ or_right (nat_eq (get_or row line 0) 48) _ one)
      | inr ge ↦
          (let none : bit_of ones line ≡ false = get_or-eq_default ones false (omega (arith, length-map row (λ c. nat_eq c 49))) in
          absurd (true≢false (sym on ∙ has-ones_of ones line ∙ none)))
    ]

pub product_is : (part : List ℕ) → IsProduct (length part) (product_of part)
product_is part = record { within = ones-lt is_bit part; wanted = wanted part }
