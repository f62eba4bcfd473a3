use Rattle.std.proofs.Common.{get_or, arith}
use Rattle.rv_net.specs.declared.op.Op.TheVariants.{X}
use Rattle.rv_sums.proofs.inside.Ends.{count_all, count_more, op_at}
use Rattle.rv_sums.proofs.same.count_h.Goals as goal

pub loop-place-preserved : goal.loop-place-preserved
loop-place-preserved c = record {
  few = omega arith;
  left =
      count_more c.args.ops.now c.loop-place.place (get_or c.args.ops.now c.loop-place.place (X 0)) c.loop-place.count c.one_if_h-count.result
      c.loop-place-test.true (op_at c.args.ops.now c.loop-place.place c.loop-place-test.true) c.one_if_h-count.ensures.value c.loop-place.invariant.left;
}

pub returns : goal.returns
returns c = count_all c.args.ops.now c.loop-place.place c.loop-place.count c.loop-place-test.false c.loop-place.invariant.left
