use Rattle.std.proofs.Common.{sym}
use Rattle.rv_blif.proofs.NodeLaws.{picked_more}
use Rattle.rv_blif.proofs.logic.picked.Goals as goal

pub loop-output-preserved : goal.loop-output-preserved
loop-output-preserved c = λ j.
    rw c.in_ok-push.ensures.items
    (picked_more c.args.rows.now c.loop-output.picked.items c.args.outputs.now c.loop-output.output-index c.output-item.result c.output-item.result c.signal.result _ j c.loop-output-test.true
    (sym c.output-item.is) (rw (sym c.output-item.is) at (c.requires c.loop-output.output-index c.output-item.result c.loop-output-test.true))
    c.signal.ensures (c.loop-output.invariant j))
