use Rattle.std.proofs.Common.{◌≡◌, ◌≤◌, ◌*◌, ◌^◌, map, reverse, take}
use Rattle.std.specs.List.{sum_by}
use Rattle.rv_gate.specs.Greatest.{greatest}
use Rattle.rv_cost.specs.CircuitCost.{counted_controls, quantum_cost, gate_task}
use Rattle.rv_cost.specs.inside.Tops.{IsLevelled}
use Rattle.rv_cost.proofs.circuit.counted.Given as goal

abbrev pub invariant-loop-gate : goal.invariant-loop-gate
invariant-loop-gate l = record {
  controls : l.most ≡ greatest counted_controls (take l.gate-index l.gates);
  quantum : l.quantum ≡ sum_by quantum_cost (take l.gate-index l.gates);
  few : l.quantum ≤ 2 ^ 67 * l.gate-index;
  levelled : IsLevelled l.levels (reverse (map gate_task (take l.gate-index l.gates)));
  low : l.levels.depth ≤ l.gate-index;
}
