use Rattle.std.proofs.Common.{◌≡◌, ◌≤◌, ◌*◌, take}
use Rattle.std.specs.List.{sum_by}
use Rattle.rv_price.specs.Price.{gate_count}
use Rattle.rv_price.proofs.network.gates_count.Given as goal

abbrev pub invariant-loop-gate : goal.invariant-loop-gate
invariant-loop-gate l = record {
  so_far : l.count ≡ sum_by (gate_count l.goal) (take l.gate-index l.gates);
  few : l.count ≤ 1536 * l.gate-index;
}
