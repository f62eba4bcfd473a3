-- The rewriting by pairs and windows.
use Rattle.std.specs.Prelude.{◌≡◌, ◌⊎◌, ℕ, zero, suc, ◌<◌, List, [], ◌∷◌, ◌++◌, length, take, drop, Option, Some, None, option_map}
use Rattle.std.specs.Option.{option_or}
use Rattle.rv_gate.specs.declared.gate.Shape.{Shape}
use Rattle.rv_templ.specs.Pairs.{after_gates, pair_step, IsPairMade, NoPair}
use Rattle.rv_templ.specs.Choices.{window_at, after, Found}
use Rattle.rv_templ.specs.Windows.{NoWindow}

-- the list after its window with the least place was replaced
unfoldable pub window_step : List (List Shape) → List Shape → Option (List Shape)
window_step library [] = None
window_step library (g ∷ rest) =
    option_or (option_map (after (g ∷ rest) library) (window_at (g ∷ rest) library))
    (after_gates (g ∷ []) (window_step library rest))

-- the list after the chosen step: a pair comes before any window
abbrev pub step : List (List Shape) → List Shape → Option (List Shape)
step library gates = option_or (pair_step gates) (window_step library gates)

abbrev pub again : (List Shape → List Shape) → List Shape → Option (List Shape) → List Shape
again go gates None = gates
again go gates (Some next) = go next

-- the list after the steps, at most n
unfoldable pub after_steps : ℕ → List (List Shape) → List Shape → List Shape
after_steps zero library gates = gates
after_steps (suc n) library gates = again (after_steps n library) gates (step library gates)

-- the list after the chosen step is made until there is none; each step drops a gate, so the length bounds the steps
unfoldable pub simplified : List (List Shape) → List Shape → List Shape
simplified library gates = after_steps (length gates) library gates

-- no pair and no window
pub record NoStepLeft (library : List (List Shape)) (gates : List Shape) : Type 0 where
  pub pairs : NoPair gates
  pub windows : (place : ℕ) → NoWindow (drop place gates) library

-- the list after the window with the least place was replaced
pub record IsWindowReplaced (library : List (List Shape)) (gates out : List Shape) : Type 0 where
  pub place : ℕ
  pub found : Found
  pub earlier : (before : ℕ) → before < place → NoWindow (drop before gates) library
  pub chosen : window_at (drop place gates) library ≡ Some found
  pub is : out ≡ take place gates ++ after (drop place gates) library found

-- one step: the first pair is made, and where there is no pair the first window is replaced
abbrev pub IsStep : List (List Shape) → List Shape → List Shape → Type 0
IsStep library gates out = IsPairMade gates out ⊎ (NoPair gates × IsWindowReplaced library gates out)

-- n steps, one after the other
abbrev pub AreSteps : List (List Shape) → ℕ → List Shape → List Shape → Type 0
AreSteps library zero gates out = gates ≡ out
AreSteps library (suc n) gates out = (next : List Shape) × IsStep library gates next × AreSteps library n next out

-- the list comes of another by such steps, and none is left
pub record IsSimplifiedBy (library : List (List Shape)) (gates out : List Shape) : Type 0 where
  pub count : ℕ
  pub steps : AreSteps library count gates out
  pub settled : NoStepLeft library out
