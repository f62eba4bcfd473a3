-- Gates that are brought together, and what takes their place.
use Rattle.std.specs.Prelude.{ℕ, ◌≤◌, ◌++◌, List, length, All}
use Rattle.rv_gate.specs.declared.gate.Shape.{Shape}
use Rattle.rv_gate.specs.declared.circuit.TheConstants.{MOST_GATES}
use Rattle.rv_gate.specs.Gate.{IsGate, AllFit}
use Rattle.rv_resynth.specs.Same.{Same, Interchangeable}

-- each is a gate, and fits n lines
pub record AreGates (n : ℕ) (gates : List Shape) : Type 0 where
  pub valid : All IsGate gates
  pub fitting : AllFit n gates

-- a list of gates in two parts: the first, then the second make the same
pub record Splits (n : ℕ) (gates window passed : List Shape) : Type 0 where
  pub same : Same n gates (window ++ passed)
  pub window_gates : AreGates n window
  pub passed_gates : AreGates n passed

-- gates that can stand in the place of others
pub record CanReplace (n : ℕ) (old new : List Shape) : Type 0 where
  pub gates : AreGates n new
  pub same : Interchangeable old new

-- what a circuit's gates may become
pub record Replaces (n : ℕ) (old new : List Shape) : Type 0 where
  pub gates : AreGates n new
  pub same : Same n old new
  pub few : length new ≤ MOST_GATES
