-- What a circuit costs.
use Rattle.std.specs.Prelude.{ℕ, ◌+◌, ◌-◌, ◌^◌, List, length, map, reverse, nat_lt, if◌then◌else◌}
use Rattle.rv_gate.specs.Circuit.{Cascade}
use Rattle.rv_gate.specs.Gate.{touched}
use Rattle.rv_gate.specs.declared.gate.Shape.{Shape}
use Rattle.rv_gate.specs.declared.gate.Shape.TheVariants.{Flip, Swap, Peres}
use Rattle.rv_gate.specs.Greatest.{greatest}
use Rattle.rv_mct.specs.Blocks.{count_lines}
use Rattle.std.specs.List.{sum_by}
use Rattle.rv_cost.specs.Levels.{Task, schedule_of, depth_of}
use Rattle.rv_cost.specs.declared.circuit.CircuitCost.{CircuitCost}

-- how many controls a gate counts: a Peres gate two, like the larger of the flips that it stands for
abbrev pub counted_controls : Shape → ℕ
counted_controls (Flip care want target) = count_lines care
counted_controls (Swap care want a b) = count_lines care
counted_controls (Peres a b c) = 2

-- the quantum cost of a flip with so many controls
abbrev pub quantum_flip_cost : ℕ → ℕ
quantum_flip_cost number = if nat_lt number 2 then 1 else 2 ^ (number + 1) - 3

-- the quantum cost of a gate: a swap's is that of a flip with one control more, and of two CNOT gates
abbrev pub quantum_cost : Shape → ℕ
quantum_cost (Flip care want target) = quantum_flip_cost (count_lines care)
quantum_cost (Swap care want a b) = quantum_flip_cost (count_lines care + 1) + 2
quantum_cost (Peres a b c) = 4

-- one level above the earlier gates that share a control or a target
abbrev pub gate_task : Shape → Task
gate_task g = record { lines = touched g; steps = 1 }

abbrev pub gate_depth : List Shape → ℕ
gate_depth gates = depth_of (schedule_of (reverse (map gate_task gates)))

abbrev pub circuit_cost : Cascade → CircuitCost
circuit_cost c =
    record {
      lines = length c.names;
      gates = length c.gates;
      controls = greatest counted_controls c.gates;
      quantum = sum_by quantum_cost c.gates;
      depth = gate_depth c.gates;
    }
