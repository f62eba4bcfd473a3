-- What of a circuit is to be small.
use Rattle.std.specs.Prelude.{ℕ, ◌+◌, ◌-◌, ◌*◌, Bool, List, length, not, ◌&&◌, nat_lt, if◌then◌else◌}
use Rattle.std.specs.List.{list_any, sum_by}
use Rattle.rv_gate.specs.declared.gate.Shape.{Shape}
use Rattle.rv_gate.specs.declared.gate.Shape.TheVariants.{Flip, Swap, Peres}
use Rattle.rv_mct.specs.Blocks.{count_lines, long_cost}
use Rattle.rv_mct.specs.declared.aux.Aux.TheVariants.{Borrowed}
use Rattle.rv_cost.specs.CircuitCost.{quantum_cost}
use Rattle.rv_search.specs.declared.goal.Goal.{Goal}
use Rattle.rv_search.specs.declared.goal.Goal.TheVariants.{Quantum, T, Gates}

-- the quantum cost of gates
abbrev pub cost_of : List Shape → ℕ
cost_of gates = sum_by quantum_cost gates

-- ---- T gates, where large gates are replaced over borrowed lines

-- the controls of the largest of the flips that a gate stands for
abbrev pub most_controls : Shape → ℕ
most_controls (Flip care want target) = count_lines care
most_controls (Swap care want a b) = count_lines care + 1
most_controls (Peres a b c) = 2

-- how many Toffoli gates take the place of a flip with so many controls, of so many lines
abbrev pub toffolis : ℕ → ℕ → ℕ
toffolis lines controls =
    if nat_lt controls 2 then 0
    else (if nat_lt controls 3 then 1 else long_cost Borrowed (lines - (controls + 1)) controls)

-- a gate is replaced, and touches each of so many lines
abbrev pub lacks_line : ℕ → Shape → Bool
lacks_line lines g = nat_lt 2 (most_controls g) && not (nat_lt (most_controls g + 1) lines)

-- how many lines there are once one is added if a gate lacks it
abbrev pub lines_with : ℕ → List Shape → ℕ
lines_with lines gates = if list_any (lacks_line lines) gates then lines + 1 else lines

abbrev pub gate_toffolis : ℕ → Shape → ℕ
gate_toffolis lines g = toffolis lines (most_controls g)

-- seven T gates for each Toffoli gate
abbrev pub t_count : ℕ → List Shape → ℕ
t_count lines gates = 7 * sum_by (gate_toffolis (lines_with lines gates)) gates

-- ---- goals

-- what a goal counts of gates on so many lines
abbrev pub measure : Goal → ℕ → List Shape → ℕ
measure Quantum lines gates = cost_of gates
measure T lines gates = t_count lines gates
measure Gates lines gates = length gates
