-- The rewriting by pairs and windows keeps the words, shortens the list and ends settled.
use Rattle.std.proofs.Common.{◌≡◌, ℕ, zero, suc, ◌<◌, ◌≤◌, List, [], ◌∷◌, length, drop, refl, sym, ◌∙◌, ap, inl, inr, arith, subst}
use Rattle.std.specs.Prelude.{Option, Some, None, option_map}
use Rattle.std.proofs.lemmas.Option.{none-some}
use Rattle.std.proofs.lemmas.Bool.{cases_lt}
use Rattle.std.proofs.lemmas.List.{drop_all}
use Rattle.rv_gate.specs.declared.word.TheConstants.{MOST_LINES}
use Rattle.rv_templ.specs.Gates.{AreGates}
use Rattle.rv_gate.specs.declared.gate.Shape.{Shape}
use Rattle.rv_templ.specs.Pairs.{after_gates, pair_step}
use Rattle.rv_templ.specs.Templates.{AreTemplates}
use Rattle.rv_templ.specs.Choices.{window_at, after}
use Rattle.rv_templ.specs.Windows.{NoWindow}
use Rattle.rv_templ.specs.Simplified.{window_step, step, after_steps, simplified, NoStepLeft, again}
use Rattle.rv_templ.proofs.PairSteps.{Better, step_better, put_before}
use Rattle.rv_templ.proofs.SettledPairs.{settled_no_pair}
use Rattle.rv_templ.proofs.MeaningLaws.{no_window}
use Rattle.rv_templ.proofs.inside.KeepingLaws.{here, kept}
use Rattle.rv_templ.proofs.Options.{or_some, map_some, after_some, after_none}
use Rattle.rv_gate.proofs.FirstAnswer.{or_none}
use Rattle.rv_gate.proofs.Options.{unmapped}

pub window_better : (n : ℕ) (library : List (List Shape)) (gates out : List Shape) → AreTemplates library → n ≤ MOST_LINES → AreGates n gates → window_step library gates ≡ Some out → Better n gates out
unfolding window_step
window_better n library [] out are most k e = absurd (none-some out e)
window_better n library (g ∷ rest) out are most k e =
    elim (or_some (option_map (after (g ∷ rest) library) (window_at (g ∷ rest) library)) (after_gates (g ∷ []) (window_step library rest)) out e) [
      | inl at ↦
          let f = map_some (after (g ∷ rest) library) (window_at (g ∷ rest) library) out at in
          let q = kept n (g ∷ rest) library f.0 k (here n library (g ∷ rest) f.0 are most k f.1) in
          subst (λ (l : List Shape). Better n (g ∷ rest) l) f.2 (record { words = q.same; fewer = q.fewer; good = q.good; no_more = q.no_more })
      | inr later ↦
          let l = after_some (g ∷ []) (window_step library rest) out later in
          subst (λ (o : List Shape). Better n (g ∷ rest) o) l.2 (put_before n g rest l.0 k.0 k.1 (window_better n library rest l.0 are most k.2 l.1))
    ]

pub change_better : (n : ℕ) (library : List (List Shape)) (gates out : List Shape) → AreTemplates library → n ≤ MOST_LINES → AreGates n gates → step library gates ≡ Some out → Better n gates out
change_better n library gates out are most k e =
    elim (or_some (pair_step gates) (window_step library gates) out e) [
      | inl pair ↦ step_better n gates out k pair
      | inr window ↦ window_better n library gates out are most k window
    ]

-- ---- any bound on the steps will do

change_nil : (library : List (List Shape)) → step library [] ≡ None
unfolding pair_step window_step
change_nil library = refl

changed_nil : (m : ℕ) (library : List (List Shape)) → after_steps m library [] ≡ []
unfolding after_steps
changed_nil zero library = refl
changed_nil (suc m) library = ap (again (after_steps m library) []) (change_nil library)

again_same : (m k n : ℕ) (library : List (List Shape)) (gates : List Shape) (o : Option (List Shape)) → AreTemplates library → n ≤ MOST_LINES → AreGates n gates → length gates ≤ suc m → length gates ≤ suc k → step library gates ≡ o
    → ((next : List Shape) → AreGates n next → length next ≤ m → length next ≤ k → after_steps m library next ≡ after_steps k library next) → again (after_steps m library) gates o ≡ again (after_steps k library) gates o
again_same m k n library gates None are most g lm lk e rec = refl
again_same m k n library gates (Some next) are most g lm lk e rec =
    let b = change_better n library gates next are most g e in
    let l = b.fewer in
    rec next b.good (omega arith) (omega arith)

pub changed_same : (m k n : ℕ) (library : List (List Shape)) (gates : List Shape) → AreTemplates library → n ≤ MOST_LINES → AreGates n gates → length gates ≤ m → length gates ≤ k → after_steps m library gates ≡ after_steps k library gates
unfolding after_steps
changed_same zero k n library [] are most g lm lk = sym (changed_nil k library)
changed_same zero k n library (x ∷ xs) are most g lm lk = absurd (omega arith)
changed_same (suc m) zero n library [] are most g lm lk = changed_nil (suc m) library
changed_same (suc m) zero n library (x ∷ xs) are most g lm lk = absurd (omega arith)
changed_same (suc m) (suc k) n library gates are most g lm lk =
    again_same m k n library gates (step library gates) are most g lm lk refl (λ next gn l1 l2. changed_same m k n library next are most gn l1 l2)

changed_more : (m : ℕ) (library : List (List Shape)) (gates : List Shape) → after_steps (suc m) library gates ≡ again (after_steps m library) gates (step library gates)
unfolding after_steps
changed_more m library gates = refl

-- one step on, the end is the same
pub simplified_on : (n : ℕ) (library : List (List Shape)) (gates next : List Shape) → AreTemplates library → n ≤ MOST_LINES → AreGates n gates → step library gates ≡ Some next → simplified library gates ≡ simplified library next
unfolding simplified
simplified_on n library gates next are most g e =
    let b = change_better n library gates next are most g e in
    let l = b.fewer in
    changed_same (length gates) (suc (length gates)) n library gates are most g (omega arith) (omega arith)
    ∙ changed_more (length gates) library gates
    ∙ ap (again (after_steps (length gates) library) gates) e
    ∙ changed_same (length gates) (length next) n library next are most b.good (omega arith) (omega arith)

pub simplified_stop : (n : ℕ) (library : List (List Shape)) (gates : List Shape) → AreTemplates library → n ≤ MOST_LINES → AreGates n gates → step library gates ≡ None → simplified library gates ≡ gates
unfolding simplified
simplified_stop n library gates are most g e =
    changed_same (length gates) (suc (length gates)) n library gates are most g (omega arith) (omega arith)
    ∙ changed_more (length gates) library gates
    ∙ ap (again (after_steps (length gates) library) gates) e

-- ---- settled

no_window_from : (library : List (List Shape)) (gates : List Shape) (place : ℕ) → AreTemplates library → window_step library gates ≡ None → place < length gates → NoWindow (drop place gates) library
unfolding window_step
no_window_from library [] place are e h = absurd (omega arith)
no_window_from library (g ∷ rest) zero are e h = grind (arith, or_none, no_window, unmapped)
no_window_from library (g ∷ rest) (suc place) are e h = let i0 = no_window_from library rest place are in grind (arith, i0, or_none, after_none)

no_window_nil : (library : List (List Shape)) → NoWindow [] library
no_window_nil library found care want w = let a = w.some in let b = w.here in omega arith

pub settled_by : (library : List (List Shape)) (gates : List Shape) → AreTemplates library → step library gates ≡ None → NoStepLeft library gates
settled_by library gates are e =
    let p = or_none (pair_step gates) (window_step library gates) e in
    record {
      pairs = settled_no_pair gates p.0;
      windows = λ place.
          elim (cases_lt place (length gates)) [
            | inl lt ↦ no_window_from library gates place are p.1 lt
            | inr ge ↦ subst (λ (l : List Shape). NoWindow l library) (sym (drop_all place gates ge)) (no_window_nil library)
          ];
    }
