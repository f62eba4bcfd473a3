use Rattle.std.proofs.Common.{◌<◌, length, arith, sym}
use Rattle.rv_ladder.proofs.Steps.{then, zeros_more, zeros_none}
use Rattle.rv_ladder.proofs.flip.add_zeros.Goals as goal

pub loop-control-init : goal.loop-control-init
loop-control-init c = zeros_none c.args.ops.now.items

pub loop-control-preserved : goal.loop-control-preserved
loop-control-preserved c =
    let h : c.loop-control.control-index < length c.args.controls.now = omega (arith, c.loop-control-test.true) in
    then c.args.ops.now.items c.loop-control.ops.items c.add_on_zero.new.ops.items _ _ _ c.loop-control.invariant c.in_ok-add_on_zero.ensures
    (sym (zeros_more c.args.controls.now c.loop-control.control-index _ h))
