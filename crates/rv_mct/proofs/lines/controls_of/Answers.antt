use Rattle.std.proofs.Common.{◌≤◌, length, arith}
use Rattle.rv_gate.specs.Word.{has}
use Rattle.rv_mct.specs.Blocks.{controls_of}
use Rattle.rv_mct.proofs.inside.LongFlips.{length-controls_of}
use Rattle.rv_mct.proofs.Walks.{room_left, count_few}
use Rattle.rv_mct.proofs.lines.controls_of.Goals as goal

pub push-requires : goal.push-requires
push-requires c =
    let care = c.args.care in
    let few : length (controls_of care c.args.want) ≤ 64 = omega (arith, length-controls_of care c.args.want, count_few (has care) 64) in
    (omega arith, room_left c.loop-control.controls.items _ _ (controls_of care c.args.want) _ c.loop-control.invariant c.in-Some.ensures.some few)
