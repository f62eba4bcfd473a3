use Rattle.std.proofs.Common.{◌≡◌, ◌*◌, ◌≤◌, length, take}
use Rattle.rv_reduce.specs.Blocks.{in_blocks}
use Rattle.rv_reduce.proofs.expanding.length_in_blocks.Given as goal

abbrev pub invariant-loop-op : goal.invariant-loop-op
invariant-loop-op l = record {
  value : l.count ≡ length (in_blocks (take l.op-index l.ops));
  few : l.count ≤ 17 * l.op-index;
}
