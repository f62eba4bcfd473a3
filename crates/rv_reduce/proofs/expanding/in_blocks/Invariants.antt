use Rattle.std.proofs.Common.{◌≡◌, take}
use Rattle.rv_reduce.specs.Blocks.{in_blocks}
use Rattle.rv_reduce.proofs.expanding.in_blocks.Given as goal

abbrev pub invariant-loop-op : goal.invariant-loop-op
invariant-loop-op l = l.made.items ≡ in_blocks (take l.op-index l.ops)
