use Rattle.std.proofs.Common.{◌≡◌, ◌≤◌, ◌*◌, ◌^◌, take}
use Rattle.std.specs.List.{sum_by}
use Rattle.rv_cost.specs.CircuitCost.{quantum_cost}
use Rattle.rv_price.proofs.pricing.quantum_sum.Given as goal

abbrev pub invariant-loop-gate : goal.invariant-loop-gate
invariant-loop-gate l = record {
  so_far : l.sum ≡ sum_by quantum_cost (take l.gate-index l.gates);
  few : l.sum ≤ 2 ^ 67 * l.gate-index;
}
