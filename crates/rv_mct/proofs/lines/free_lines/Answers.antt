use Rattle.std.proofs.Common.{◌≤◌, length, arith}
use Rattle.rv_mct.specs.Blocks.{rising, is_free}
use Rattle.rv_mct.proofs.inside.LongFlips.{length-rising}
use Rattle.rv_mct.proofs.Walks.{room_left, count_few, rising_free}
use Rattle.rv_mct.proofs.lines.free_lines.Goals as goal

pub loop-left-init : goal.loop-left-init
loop-left-init c = record {
  parts = rw c.new-free.ensures (rising_free _ c.args.care c.args.target c.args.lines c.requires.few c.free_set-left.ensures);
  few = rw c.new-free.ensures (omega arith);
}

pub push-requires : goal.push-requires
push-requires c =
    let free = is_free c.args.care c.args.target in
    let few : length (rising free c.args.lines) ≤ 64 = omega (arith, length-rising free c.args.lines, count_few free c.args.lines, c.requires.few) in
    (omega arith, room_left c.loop-left.free.items _ _ (rising free c.args.lines) _ c.loop-left.invariant.parts c.in-Some.ensures.some few)
