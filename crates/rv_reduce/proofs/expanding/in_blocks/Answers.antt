use Rattle.std.proofs.Common.{◌++◌, ◌∙◌, List, ap, get_or, sym}
use Rattle.rv_net.specs.declared.op.Op.{Op}
use Rattle.rv_net.specs.declared.op.Op.TheVariants.{X}
use Rattle.rv_reduce.specs.Blocks.{block_of}
use Rattle.rv_reduce.proofs.Blocks.{in_blocks_more, in_blocks_none}
use Rattle.rv_reduce.proofs.expanding.in_blocks.Goals as goal

pub loop-op-init : goal.loop-op-init
loop-op-init c = c.in_ok-made.ensures.items ∙ sym in_blocks_none

pub loop-op-preserved : goal.loop-op-preserved
loop-op-preserved c =
    c.in_ok-add_block.ensures
    ∙ ap (λ (made : List Op). made ++ block_of (get_or c.args.ops.now c.loop-op.op-index (X 0))) c.loop-op.invariant
    ∙ sym (in_blocks_more c.args.ops.now c.loop-op.op-index (X 0) c.loop-op-test.true)
