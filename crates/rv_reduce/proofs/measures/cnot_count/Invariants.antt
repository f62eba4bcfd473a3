use Rattle.std.proofs.Common.{◌≡◌, ◌*◌, ◌≤◌, take}
use Rattle.rv_reduce.specs.Cnots.{cnot_count}
use Rattle.rv_reduce.proofs.measures.cnot_count.Given as goal

abbrev pub invariant-loop-op : goal.invariant-loop-op
invariant-loop-op l = record {
  value : l.count ≡ cnot_count (take l.op-index l.ops);
  few : l.count ≤ 3 * l.op-index;
}
