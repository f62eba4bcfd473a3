use Rattle.std.proofs.Common.{◌≡◌, ◌≤◌, ◌*◌, take}
use Rattle.rv_ladder.specs.Counts.{gate_count, operations}
use Rattle.std.specs.List.{sum_by}
use Rattle.rv_ladder.proofs.measuring.gates_count.Given as goal

abbrev pub invariant-loop-gate : goal.invariant-loop-gate
invariant-loop-gate l = record {
  so_far : l.count ≡ sum_by (gate_count operations l.aux l.lines) (take l.gate-index l.gates);
  few : l.count ≤ 4095 * l.gate-index;
}
