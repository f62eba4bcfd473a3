use Rattle.std.proofs.Common.{length, arith}
use Rattle.rv_compute.proofs.Curves.{fewer_more, fewer_all}
use Rattle.rv_compute.proofs.points.is_on_more.Goals as goal

pub loop-point-preserved : goal.loop-point-preserved
loop-point-preserved c =
    fewer_more (length c.args.new.now.names) c.args.points.now c.loop-point.point-index c.point-item.result
    c.loop-point-test.true c.point-item.is
    (record { fewer = omega (arith, c.if-line_count.false, c.line_count.ensures.value, c.line_count-in-loop-point.ensures.value) })
    c.loop-point.invariant

pub returns : goal.returns
returns c on =
    fewer_all (length c.args.new.now.names) c.args.points.now c.loop-point.point-index (omega (arith, c.loop-point-test.false)) c.loop-point.invariant
