use Rattle.std.proofs.Common.{ap, arith, length, sym}
use Rattle.rv_net.specs.declared.op.Op.TheVariants.{X}
use Rattle.rv_reduce.proofs.Blocks.{in_blocks_none, length_more}
use Rattle.rv_reduce.proofs.expanding.length_in_blocks.Goals as goal

pub loop-op-init : goal.loop-op-init
loop-op-init c = record { value = sym (ap length in_blocks_none); few = omega arith }

pub loop-op-preserved : goal.loop-op-preserved
loop-op-preserved c =
    let more = length_more c.args.ops.now c.loop-op.op-index (X 0) c.loop-op-test.true in
    let value = c.block_length-count.ensures.value in
    record { value = omega (arith, c.loop-op.invariant.value, more, value); few = omega (arith, c.loop-op.invariant.few, c.block_length-count.ensures.few) }
