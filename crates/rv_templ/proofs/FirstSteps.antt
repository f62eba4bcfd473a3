-- Each step makes the first pair, or replaces the first window where there is no pair.
use Rattle.std.proofs.Common.{◌≡◌, ℕ, zero, suc, ◌<◌, List, [], ◌∷◌, length, drop, refl, sym, ◌∙◌, ap, inl, inr, arith, subst}
use Rattle.std.specs.Option.{option_or}
use Rattle.std.specs.Prelude.{Option, Some, None, option_map}
use Rattle.std.proofs.lemmas.Option.{none-some, same_Some}
use Rattle.rv_gate.specs.declared.gate.Shape.{Shape}
use Rattle.rv_templ.specs.Choices.{Found, after, window_at}
use Rattle.rv_templ.specs.Pairs.{after_gates, pair_step}
use Rattle.rv_templ.specs.Simplified.{AreSteps, IsSimplifiedBy, IsStep, IsWindowReplaced, NoStepLeft, after_steps, again, simplified, step, window_step}
use Rattle.rv_templ.specs.Templates.{AreTemplates}
use Rattle.rv_templ.specs.Windows.{NoWindow}
use Rattle.rv_templ.proofs.FirstPairs.{pair_step-first}
use Rattle.rv_templ.proofs.MeaningLaws.{no_window}
use Rattle.rv_templ.proofs.Options.{after_some}
use Rattle.rv_templ.proofs.SettledPairs.{settled_no_pair}

none_earlier : (library : List (List Shape)) (g : Shape) (rest : List Shape) (place : ℕ) → NoWindow (g ∷ rest) library
    → ((before : ℕ) → before < place → NoWindow (drop before rest) library) → (before : ℕ) → before < suc place → NoWindow (drop before (g ∷ rest)) library
none_earlier library g rest place none earlier zero lt = none
none_earlier library g rest place none earlier (suc before) lt = earlier before (omega (arith, lt))

window_step-first : (library : List (List Shape)) (gates out : List Shape) → AreTemplates library → window_step library gates ≡ Some out → IsWindowReplaced library gates out
unfolding window_step
window_step-first library [] out are e = absurd (none-some out e)
window_step-first library (g ∷ rest) out are e = by (window_at (g ∷ rest) library) refl e (λ o is. window_step-first library rest o are is)
  where
    by : (w : Option Found) → window_at (g ∷ rest) library ≡ w
        → option_or (option_map (after (g ∷ rest) library) w) (after_gates (g ∷ []) (window_step library rest)) ≡ Some out
        → ((o : List Shape) → window_step library rest ≡ Some o → IsWindowReplaced library rest o) → IsWindowReplaced library (g ∷ rest) out
    by (Some found) here is rec = record {
      place = 0;
      found = found;
      earlier = λ before lt. absurd (omega (arith, lt));
      chosen = here;
      is = sym (same_Some _ _ is);
    }
    by None none is rec =
        let l = after_some (g ∷ []) (window_step library rest) out is in
        let r = rec l.0 l.1 in record {
          place = suc r.place;
          found = r.found;
          earlier = none_earlier library g rest r.place (no_window (g ∷ rest) library are none) r.earlier;
          chosen = r.chosen;
          is = sym l.2 ∙ ap (λ more. g ∷ more) r.is;
        }

step-first : (library : List (List Shape)) (gates out : List Shape) → AreTemplates library → step library gates ≡ Some out → IsStep library gates out
step-first library gates out are e = by (pair_step gates) refl e
  where
    by : (p : Option (List Shape)) → pair_step gates ≡ p → option_or p (window_step library gates) ≡ Some out → IsStep library gates out
    by (Some made) here is = inl (pair_step-first gates out (here ∙ is))
    by None none is = inr (settled_no_pair gates none, window_step-first library gates out are is)

after_steps-first : (m : ℕ) (library : List (List Shape)) (gates : List Shape) → AreTemplates library → (n : ℕ) × AreSteps library n gates (after_steps m library gates)
unfolding after_steps
after_steps-first zero library gates are = (0, refl)
after_steps-first (suc m) library gates are = by (step library gates) refl (λ next. after_steps-first m library next are)
  where
    by : (s : Option (List Shape)) → step library gates ≡ s → ((next : List Shape) → (n : ℕ) × AreSteps library n next (after_steps m library next))
        → (n : ℕ) × AreSteps library n gates (again (after_steps m library) gates s)
    by None none rec = (0, refl)
    by (Some next) is rec = (suc (rec next).0, (next, step-first library gates next are is, (rec next).1))

-- the law
pub simplified-first : (library : List (List Shape)) (gates out : List Shape) → AreTemplates library → out ≡ simplified library gates → NoStepLeft library out → IsSimplifiedBy library gates out
unfolding simplified
simplified-first library gates out are is settled =
    let By : List Shape → Type 0 = λ l. (n : ℕ) × AreSteps library n gates l in
    let steps = subst By (sym is) (after_steps-first (length gates) library gates are) in
    record { count = steps.0; steps = steps.1; settled = settled }
