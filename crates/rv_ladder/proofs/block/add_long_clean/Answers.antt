use Rattle.std.proofs.Common.{◌≡◌, ◌-◌, ◌≤◌, length, arith, ap, ◌∙◌}
use Rattle.rv_mct.specs.Blocks.{controls_of, count_lines}
use Rattle.rv_mct.proofs.inside.LongFlips.{length-controls_of}
use Rattle.rv_ladder.proofs.block.add_long_clean.Goals as goal

pub add_clean-requires-clause-some : goal.add_clean-requires-clause-some
add_clean-requires-clause-some c =
    let cs : c.deref.result.now ≡ controls_of c.args.care c.args.want = c.deref.ensures.0 ∙ c.controls_of-controls.ensures in
    let l1 : length c.deref.result.now ≡ count_lines c.args.care = ap length cs ∙ length-controls_of c.args.care c.args.want in
    omega (arith, c.requires.many)

pub add_clean-requires-clause-room : goal.add_clean-requires-clause-room
add_clean-requires-clause-room c =
    let cs : c.deref.result.now ≡ controls_of c.args.care c.args.want = c.deref.ensures.0 ∙ c.controls_of-controls.ensures in
    let l1 : length c.deref.result.now ≡ count_lines c.args.care = ap length cs ∙ length-controls_of c.args.care c.args.want in
    let e : count_lines c.args.care - 2 ≤ c.args.extra = c.requires.ready.enough in
    omega (arith, c.requires.ready.few)
