-- The places of a node's operands, one after another.
use Rattle.std.proofs.Common.{◌≡◌, ℕ, ◌+◌, ◌-◌, ◌<◌, List, [], ◌∷◌, ◌++◌, length, get_or, refl, sym, subst, ◌∙◌, ap, inl, inr, arith, length-append, ◌≤◌}
use Rattle.std.specs.Prelude.{Option, Some, None, ◌⊎◌}
use Rattle.std.proofs.lemmas.Bool.{cases_lt}
use Rattle.std.proofs.lemmas.List.{get_or_append_left, get_or-append_right, get_or_past}
use Rattle.rv_blif.specs.Logic.{Logic}
use Rattle.rv_compute.specs.declared.place.Place.{Place}
use Rattle.rv_compute.specs.inside.Places.{place_at}
use Rattle.rv_compute.specs.inside.Held.{IsPlaceFor, IsPlaceIf}

-- those of the first operands
pub record ArePlacedBelow (logic : Logic) (held : List (Option ℕ)) (target : ℕ) (signals : List ℕ) (count : ℕ)
    (places : List (Option Place)) : Type 0 where
  pub count_is : length places ≡ count
  pub each : (operand : ℕ) (place : Place) → place_at places operand ≡ Some place
      → IsPlaceFor logic held target (get_or signals operand 0) place

pub placed_none : (logic : Logic) (held : List (Option ℕ)) (target : ℕ) (signals : List ℕ)
    → ArePlacedBelow logic held target signals 0 []
placed_none logic held target signals = record {
  count_is = refl;
  each = λ operand place at. cc;
}

pub placed_more : (logic : Logic) (held : List (Option ℕ)) (target : ℕ) (signals : List ℕ) (i : ℕ)
    (places : List (Option Place)) (next : Option Place)
    → ArePlacedBelow logic held target signals i places
    → IsPlaceIf logic held target (get_or signals i 0) next
    → ArePlacedBelow logic held target signals (i + 1) (places ++ next ∷ [])
placed_more logic held target signals i places next so_far h = record {
  count_is = length-append places (next ∷ []) ∙ (let e = so_far.count_is in omega arith);
  each = λ operand place at. go operand place at (cases_lt operand i);
}
  where
    go : (operand : ℕ) (place : Place) → place_at (places ++ next ∷ []) operand ≡ Some place
        → (operand < i) ⊎ (i ≤ operand) → IsPlaceFor logic held target (get_or signals operand 0) place
    go operand place at (inl below) =
        so_far.each operand place
        (sym (get_or_append_left places (next ∷ []) None operand (let e = so_far.count_is in omega arith)) ∙ at)
    go operand place at (inr above) =
        elim (cases_lt i operand) [
          | inl past ↦
              (let e = so_far.count_is in
              let none : place_at (places ++ next ∷ []) operand ≡ None =
              get_or_past (places ++ next ∷ []) operand None (omega (arith, length-append places (next ∷ []))) in
              cc)
          | inr le ↦
              (let same : operand ≡ i = omega arith in
              let e = so_far.count_is in
              let here : place_at (places ++ next ∷ []) operand ≡ next =
              get_or-append_right places (next ∷ []) i operand None e (omega arith)
              ∙ (let z : operand - i ≡ 0 = omega arith in ap (λ k. get_or (next ∷ []) k None) z) in
              let P : ℕ → Type 0 = λ o. IsPlaceFor logic held target (get_or signals o 0) place in
              subst P (sym same) (h.each place (sym here ∙ at)))
        ]
