-- Cascades that add a value to the outputs, and what they cost.
use Rattle.std.specs.Prelude.{ℕ, ◌≡◌, ◌≤◌, Bool, false, List, [], ◌∷◌, ◌++◌, All, length, if◌then◌else◌, count_ones}
use Rattle.std.specs.List.{sum_by}
use Rattle.rv_gate.specs.Circuit.{Cascade}
use Rattle.rv_gate.specs.Gate.{IsFlip, run, controls, xor}
use Rattle.rv_gate.specs.declared.gate.Shape.{Shape}
use Rattle.rv_pla.specs.Cube.{matches}
use Rattle.rv_pla.specs.declared.cube.Cube.{Cube}
use Rattle.rv_pla.specs.declared.cube.TheConstants.{MOST_INPUTS}
use Rattle.rv_exorlink.specs.declared.goal.Goal.{Goal}
use Rattle.rv_exorlink.specs.Weight.{flip_cost}
use Rattle.rv_esop.specs.Cascade.{esop_lines, xor_set}

-- gates keep the inputs and add a function of them to the outputs, whatever these hold
pub record Adds (inputs outputs : ℕ) (value : List Bool → ℕ) (gates : List Shape) : Type 0 where
  pub adds : (x v : List Bool) → length x ≡ inputs → length v ≡ outputs → run gates (x ++ v) ≡ x ++ xor_set v (value x)

-- such gates have come to a circuit
pub record Appends (inputs outputs : ℕ) (value : List Bool → ℕ) (old new : Cascade) : Type 0 where
  pub block : List Shape
  pub is : new ≡ record old { gates = old.gates ++ block }
  pub added : Adds inputs outputs value block

-- an odd number of cubes match
unfoldable pub is_odd : List Cube → List Bool → Bool
is_odd [] word = false
is_odd (cube ∷ rest) word = xor (matches cube word) (is_odd rest word)

-- the set where an odd number of cubes match
abbrev pub given : ℕ → List Cube → List Bool → ℕ
given set cubes word = if is_odd cubes word then set else 0

abbrev pub gate_cost : Goal → Shape → ℕ
gate_cost goal gate = flip_cost goal (count_ones (controls gate))

abbrev pub cost_of : Goal → List Shape → ℕ
cost_of goal gates = sum_by (gate_cost goal) gates

-- each gate is a flip, under no more controls than one of a cube can have
abbrev pub AreShort : List Shape → Type 0
AreShort gates = All (λ gate. IsFlip gate × (count_ones (controls gate) ≤ MOST_INPUTS)) gates

-- a circuit on the lines for so many inputs and outputs
abbrev pub IsOnLines : ℕ → ℕ → Cascade → Type 0
IsOnLines inputs outputs c = c ≡ record (esop_lines inputs outputs) { gates = c.gates }
