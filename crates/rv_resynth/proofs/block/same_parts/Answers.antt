use Rattle.std.proofs.Common.{arith}
use Rattle.rv_resynth.proofs.inside.Blocks.{part_differs}
use Rattle.rv_resynth.proofs.block.same_parts.Goals as goal

pub returns-then-a-part-clause-differ : goal.returns-then-a-part-clause-differ
returns-then-a-part-clause-differ c _ =
    part_differs c.args.a c.args.b c.loop-part.part (omega arith) (omega arith) (omega arith) c.if-a-part.true
