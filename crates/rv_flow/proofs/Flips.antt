-- Flips stay flips while they are simplified.
use Rattle.std.proofs.Common.{◌≡◌, ℕ, zero, suc, Bool, true, false, cond, ◌&&◌, eqb, List, [], ◌∷◌, ◌++◌, length, take, drop, reverse, refl, ◌∙◌, inl, inr, subst}
use Rattle.std.specs.Prelude.{Option, Some, None, option_map}
use Rattle.std.proofs.lemmas.Bool.{false≢true}
use Rattle.std.proofs.lemmas.Option.{none-some, same_Some}
use Rattle.rv_gate.specs.Commuting.{rule}
use Rattle.rv_gate.specs.Gate.{IsFlip}
use Rattle.rv_gate.specs.declared.gate.Shape.{Shape}
use Rattle.rv_gate.specs.declared.gate.Shape.TheVariants.{Flip, Swap, Peres}
use Rattle.rv_gate.specs.declared.word.TheConstants.{MOST_LINES}
use Rattle.rv_templ.specs.Choices.{after, template_in, window_at, Found}
use Rattle.rv_templ.specs.Gates.{Flips}
use Rattle.rv_templ.specs.Images.{fresh_care, fresh_want, others, span, turned}
use Rattle.rv_templ.specs.Pairs.{apart_on, after_gates, lone, pair_step, paired, partner, third_at, third_flip}
use Rattle.rv_templ.specs.Simplified.{after_steps, again, simplified, step, window_step}
use Rattle.rv_templ.proofs.Options.{after_some, map_some, or_some}
use Rattle.rv_templ.proofs.WindowLaws.{flips_image}
use Rattle.rv_gate.proofs.Every.{every_append, every_drop, every_reverse}

-- ---- pairs

of_third : (care want care2 want2 target : ℕ) (line : Option ℕ) (made : List Shape) → third_at care want care2 want2 target line ≡ Some made → Flips made
unfolding third_flip
of_third care want care2 want2 target None made is = absurd (none-some made is)
of_third care want care2 want2 target (Some line) made is = subst (λ (l : List Shape). Flips l) (same_Some (third_flip care want care2 want2 target line ∷ []) made is) (refl, tt)

of_same : (same : Bool) (third : Option (List Shape)) (made : List Shape) → (third ≡ Some made → Flips made) → cond same (Some []) third ≡ Some made → Flips made
of_same true third made flips is = subst (λ (l : List Shape). Flips l) (same_Some [] made is) tt
of_same false third made flips is = flips is

where_met : (test : Bool) (o : Option (List Shape)) (made : List Shape) → cond test o None ≡ Some made → o ≡ Some made
where_met true o made is = is
where_met false o made is = absurd (none-some made is)

of_pair : (g h : Shape) (made : List Shape) → IsFlip g → paired g h ≡ Some made → Flips made
unfolding paired
of_pair (Flip care want target) (Flip care2 want2 target2) made flip is =
    let third : Option (List Shape) = third_at care want care2 want2 target (lone (apart_on care want care2 want2) MOST_LINES) in
    let same : Bool = eqb care care2 && eqb want want2 in
    of_same same third made (of_third care want care2 want2 target (lone (apart_on care want care2 want2) MOST_LINES) made)
    (where_met (eqb target target2) (cond same (Some []) third) made is)
of_pair (Flip care want target) (Swap _ _ _ _) made flip is = absurd (none-some made is)
of_pair (Flip care want target) (Peres _ _ _) made flip is = absurd (none-some made is)
of_pair (Swap care want a b) h made flip is = absurd (false≢true flip)
of_pair (Peres a b c) h made flip is = absurd (false≢true flip)

of_partner : (g : Shape) (rest made : List Shape) → IsFlip g → Flips rest → partner g rest ≡ Some made → Flips made
unfolding partner
of_partner g [] made flip flips is = absurd (none-some made is)
of_partner g (h ∷ rest) made flip flips is =
    elim (or_some _ _ made is) [
      | inl here ↦
          let l = after_some [] _ made here in
          let m = map_some (λ m. m ++ rest) (paired g h) l.0 l.1 in
          subst (λ (x : List Shape). Flips x) (m.2 ∙ l.2) (every_append IsFlip m.0 rest (of_pair g h m.0 flip m.1) flips.1)
      | inr later ↦
          let l = after_some (h ∷ []) (partner g rest) made (where_met (rule g h) _ made later) in
          subst (λ (x : List Shape). Flips x) l.2 (flips.0, of_partner g rest l.0 flip flips.1 l.1)
    ]

of_pair_step : (gates made : List Shape) → Flips gates → pair_step gates ≡ Some made → Flips made
unfolding pair_step
of_pair_step [] made flips is = absurd (none-some made is)
of_pair_step (g ∷ rest) made flips is =
    elim (or_some _ _ made is) [
      | inl here ↦ of_partner g rest made flips.0 flips.1 here
      | inr later ↦
          let l = after_some (g ∷ []) (pair_step rest) made later in
          subst (λ (x : List Shape). Flips x) l.2 (flips.0, of_pair_step rest l.0 flips.1 l.1)
    ]

-- ---- windows

of_window : (gates : List Shape) (library : List (List Shape)) (found : Found) → Flips gates → Flips (after gates library found)
of_window gates library found flips =
    let window : List Shape = take found.count gates in
    let template : List Shape = turned found.turn (template_in library found.template) in
    let care : ℕ = fresh_care window (span template) found.lines in
    let want : ℕ = fresh_want window (span template) found.lines in
    every_append IsFlip (reverse (others (length window) template found.lines care want)) (drop found.count gates)
    (every_reverse IsFlip (others (length window) template found.lines care want) (flips_image found.lines care want (drop (length window) template)))
    (every_drop IsFlip found.count gates flips)

of_window_step : (library : List (List Shape)) (gates made : List Shape) → Flips gates → window_step library gates ≡ Some made → Flips made
unfolding window_step
of_window_step library [] made flips is = absurd (none-some made is)
of_window_step library (g ∷ rest) made flips is =
    elim (or_some (option_map (after (g ∷ rest) library) (window_at (g ∷ rest) library)) (after_gates (g ∷ []) (window_step library rest)) made is) [
      | inl here ↦
          let f = map_some (after (g ∷ rest) library) (window_at (g ∷ rest) library) made here in
          subst (λ (x : List Shape). Flips x) f.2 (of_window (g ∷ rest) library f.0 flips)
      | inr later ↦
          let l = after_some (g ∷ []) (window_step library rest) made later in
          subst (λ (x : List Shape). Flips x) l.2 (flips.0, of_window_step library rest l.0 flips.1 l.1)
    ]

-- ---- all steps

of_step : (library : List (List Shape)) (gates made : List Shape) → Flips gates → step library gates ≡ Some made → Flips made
of_step library gates made flips is =
    elim (or_some (pair_step gates) (window_step library gates) made is) [
      | inl pair ↦ of_pair_step gates made flips pair
      | inr window ↦ of_window_step library gates made flips window
    ]

of_again : (go : List Shape → List Shape) (gates : List Shape) (o : Option (List Shape)) → Flips gates → ((made : List Shape) → o ≡ Some made → Flips (go made)) → Flips (again go gates o)
of_again go gates None flips next = flips
of_again go gates (Some made) flips next = next made refl

of_steps : (n : ℕ) (library : List (List Shape)) (gates : List Shape) → Flips gates → Flips (after_steps n library gates)
unfolding after_steps
of_steps zero library gates flips = flips
of_steps (suc n) library gates flips =
    of_again (after_steps n library) gates (step library gates) flips (λ made is. of_steps n library made (of_step library gates made flips is))

pub of_simplified : (library : List (List Shape)) (gates : List Shape) → Flips gates → Flips (simplified library gates)
unfolding simplified
of_simplified library gates flips = of_steps (length gates) library gates flips
