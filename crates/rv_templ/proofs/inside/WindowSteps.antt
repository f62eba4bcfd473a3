-- The first window of a list, and the places that have none.
use Rattle.std.proofs.Common.{◌≡◌, ℕ, zero, suc, ◌+◌, ◌-◌, ◌<◌, ◌≤◌, min, List, [], ◌∷◌, ◌++◌, length, take, drop, refl, sym, ◌∙◌, ap, inl, inr, arith}
use Rattle.std.specs.Option.{option_or}
use Rattle.std.specs.Prelude.{Some, None, option_map}
use Rattle.std.proofs.lemmas.Bool.{cases_lt}
use Rattle.std.proofs.lemmas.List.{take-take, length-take-le, take_all, drop-take}
use Rattle.rv_gate.specs.declared.gate.Shape.{Shape}
use Rattle.rv_gate.specs.FirstAnswer.{first}
use Rattle.rv_templ.specs.Pairs.{after_gates}
use Rattle.rv_templ.specs.Choices.{window_at, after, at_most, at_count, at_template, Found}
use Rattle.rv_templ.specs.Simplified.{window_step}
use Rattle.rv_templ.specs.inside.Clean.{Short, Clean}
use Rattle.rv_gate.proofs.FirstAnswer.{none_first}
use Rattle.rv_templ.proofs.inside.ChoiceLemmas.{too_short}

pub window_step_at : (library : List (List Shape)) (gates : List Shape) (place : ℕ) (found : Found) → Clean library gates place → place < length gates → window_at (drop place gates) library ≡ Some found
    → window_step library gates ≡ Some (take place gates ++ after (drop place gates) library found)
unfolding window_step
window_step_at library [] place found clean lt e = absurd (omega arith)
window_step_at library (g ∷ rest) zero found clean lt e = ap (λ o. option_or (option_map (after (g ∷ rest) library) o) (after_gates (g ∷ []) (window_step library rest))) e
window_step_at library (g ∷ rest) (suc place) found clean lt e =
    ap (λ o. option_or (option_map (after (g ∷ rest) library) o) (after_gates (g ∷ []) (window_step library rest))) (clean 0 (omega arith))
    ∙ ap (after_gates (g ∷ [])) (window_step_at library rest place found (λ i h. clean (suc i) (omega arith)) (omega arith) e)

pub window_step_none : (library : List (List Shape)) (gates : List Shape) → Clean library gates (length gates) → window_step library gates ≡ None
unfolding window_step
window_step_none library [] clean = refl
window_step_none library (g ∷ rest) clean =
    ap (λ o. option_or (option_map (after (g ∷ rest) library) o) (after_gates (g ∷ []) (window_step library rest))) (clean 0 (omega arith))
    ∙ ap (after_gates (g ∷ [])) (window_step_none library rest (λ i h. clean (suc i) (omega arith)))

-- ---- as many gates as the longest template has are enough

more_none : (most : ℕ) (library : List (List Shape)) (gates : List Shape) (k : ℕ) → Short most library → most < k → k ≤ length gates → at_count gates library k ≡ None
unfolding at_count
more_none most library gates k short h le = grind (arith, none_first, at_template, too_short, length-take-le)

most_suc : (gates : List Shape) (library : List (List Shape)) (k : ℕ) → at_count gates library (suc k) ≡ None → at_most gates library (suc k) ≡ at_most gates library k
unfolding at_most
most_suc gates library k e = ap (λ o. option_or o (at_most gates library k)) e

most_more : (most : ℕ) (library : List (List Shape)) (gates : List Shape) (d : ℕ) → ((k : ℕ) → most < k → k ≤ length gates → at_count gates library k ≡ None) → most + d ≤ length gates
    → at_most gates library (most + d) ≡ at_most gates library most
most_more most library gates zero none le = let z : most + 0 ≡ most = omega arith in ap (at_most gates library) z
most_more most library gates (suc d) none le =
    let s : most + suc d ≡ suc (most + d) = omega arith in
    ap (at_most gates library) s
    ∙ most_suc gates library (most + d) (none (suc (most + d)) (omega arith) (omega arith))
    ∙ most_more most library gates d none (omega arith)

most_taken : (library : List (List Shape)) (gates : List Shape) (k m : ℕ) → k ≤ m → at_most (take m gates) library k ≡ at_most gates library k
unfolding at_most at_count
most_taken library gates zero m le = refl
most_taken library gates (suc k) m le =
    ap (λ l. option_or (first (at_template l library) 0 (length library)) (at_most (take m gates) library k)) (take-take (suc k) m gates le)
    ∙ ap (option_or (first (at_template (take (suc k) gates) library) 0 (length library))) (most_taken library gates k m (omega arith))

pub window_begun : (most : ℕ) (library : List (List Shape)) (gates : List Shape) → ((k : ℕ) → most < k → k ≤ length gates → at_count gates library k ≡ None)
    → window_at (take most gates) library ≡ window_at gates library
window_begun most library gates none =
    elim (cases_lt (length gates) most) [
      | inl lt ↦ ap (λ l. window_at l library) (take_all most gates (omega arith))
      | inr ge ↦
          let d : ℕ = length gates - most in
          let s : most + d ≡ length gates = omega arith in
          ap (at_most (take most gates) library) (length-take-le most gates ge)
          ∙ most_taken library gates most most (omega arith)
          ∙ sym (most_more most library gates d none (omega arith))
          ∙ ap (at_most gates library) s
    ]

window_taken : (most : ℕ) (library : List (List Shape)) (gates : List Shape) → Short most library → window_at (take most gates) library ≡ window_at gates library
window_taken most library gates short = window_begun most library gates (λ k more le. more_none most library gates k short more le)

-- ---- a change leaves the places that are far enough before it

pub front_same : {A : Type 0} (old new : List A) (change i most : ℕ) → take change old ≡ take change new → i + most ≤ change → take most (drop i old) ≡ take most (drop i new)
front_same old new change i most e le =
    sym (drop-take i most old)
    ∙ ap (drop i) (sym (take-take (i + most) change old le) ∙ ap (take (i + most)) e ∙ take-take (i + most) change new le)
    ∙ drop-take i most new

pub still_clean : (library : List (List Shape)) (old new : List Shape) (clean place most : ℕ) → Short most library → Clean library old clean → take place old ≡ take place new
    → Clean library new (min clean (place + 1 - most))
still_clean library old new clean place most short none e i lt =
    sym (window_taken most library (drop i new) short)
    ∙ ap (λ l. window_at l library) (sym (front_same old new place i most e (omega (arith, lt))))
    ∙ window_taken most library (drop i old) short
    ∙ none i (omega (arith, lt))
