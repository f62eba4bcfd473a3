-- What simplifying keeps, by the definitions alone.
use Rattle.std.proofs.Common.{◌≡◌, ℕ, zero, suc, ◌≤◌, Bool, List, [], ◌∷◌, length, refl, ◌∙◌, arith}
use Rattle.std.specs.Prelude.{Option, Some, None}
use Rattle.rv_gate.specs.declared.gate.Shape.{Shape}
use Rattle.rv_gate.specs.declared.word.TheConstants.{MOST_LINES}
use Rattle.rv_templ.specs.Gates.{AreGates, Same}
use Rattle.rv_templ.specs.Simplified.{after_steps, again, simplified, step}
use Rattle.rv_templ.specs.Templates.{AreTemplates}
use Rattle.rv_templ.proofs.PairSteps.{Better}
use Rattle.rv_templ.proofs.StepLaws.{change_better}

-- the same on every word, no more gates, and each of them fits
pub record Keeps (n : ℕ) (old new : List Shape) : Type 0 where
  pub same : Same n old new
  pub fewer : length new ≤ length old
  pub good : AreGates n new

nothing : (n : ℕ) (gates : List Shape) → AreGates n gates → Keeps n gates gates
nothing n gates good = record { same = λ word len. refl; fewer = omega arith; good = good }

by_again : (n : ℕ) (go : List Shape → List Shape) (gates : List Shape) (o : Option (List Shape)) → AreGates n gates → ((made : List Shape) → o ≡ Some made → Keeps n gates (go made)) → Keeps n gates (again go gates o)
by_again n go gates None good next = nothing n gates good
by_again n go gates (Some made) good next = next made refl

by_both : (n : ℕ) (old made new : List Shape) → Better n old made → Keeps n made new → Keeps n old new
by_both n old made new b k = record {
  same = λ word len. b.words word len ∙ k.same word len;
  fewer = let x = b.fewer in let y = k.fewer in omega arith;
  good = k.good;
}

by_steps : (m n : ℕ) (library : List (List Shape)) (gates : List Shape) → AreTemplates library → n ≤ MOST_LINES → AreGates n gates → Keeps n gates (after_steps m library gates)
unfolding after_steps
by_steps zero n library gates are most good = nothing n gates good
by_steps (suc m) n library gates are most good =
    by_again n (after_steps m library) gates (step library gates) good
    (λ made is. (let b : Better n gates made = change_better n library gates made are most good is in
    by_both n gates made (after_steps m library made) b (by_steps m n library made are most b.good)))

pub by_simplifying : (n : ℕ) (library : List (List Shape)) (gates : List Shape) → AreTemplates library → n ≤ MOST_LINES → AreGates n gates → Keeps n gates (simplified library gates)
unfolding simplified
by_simplifying n library gates are most good = by_steps (length gates) n library gates are most good
