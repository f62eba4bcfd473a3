-- What gates cost by a goal.
use Rattle.std.specs.Prelude.{ℕ, ◌-◌, ◌*◌, ◌^◌, min, nat_lt, List, length, if◌then◌else◌}
use Rattle.std.specs.List.{sum_by}
use Rattle.rv_cost.specs.CircuitCost.{quantum_cost}
use Rattle.rv_gate.specs.declared.gate.Shape.{Shape}
use Rattle.rv_gate.specs.declared.gate.Shape.TheVariants.{Flip, Swap, Peres}
use Rattle.rv_mct.specs.Blocks.{count_lines, flips_of}
use Rattle.rv_price.specs.declared.goal.Goal.{Goal}
use Rattle.rv_price.specs.declared.goal.Goal.TheVariants.{Lines, T, Cx, Quantum, Gates}

-- the operations of a flip with so many controls over lines that hold 0: CNOT, else T
abbrev pub controls_count : Goal → ℕ → ℕ
controls_count Cx controls = if nat_lt controls 2 then controls else 6 * controls - 6
controls_count goal controls = if nat_lt controls 2 then 0 else 8 * controls - 9

abbrev pub flip_count : Goal → Shape → ℕ
flip_count goal (Flip care want target) = controls_count goal (count_lines care)
flip_count goal (Swap care want a b) = 0
flip_count goal (Peres a b c) = 0

abbrev pub gate_count : Goal → Shape → ℕ
gate_count goal g = sum_by (flip_count goal) (flips_of g)

-- what gates on so many lines cost
abbrev pub price_of : Goal → ℕ → List Shape → ℕ
price_of Lines lines gates = lines
price_of Gates lines gates = length gates
price_of Quantum lines gates = min (sum_by quantum_cost gates) (2 ^ 64 - 1)
price_of goal lines gates = sum_by (gate_count goal) gates
