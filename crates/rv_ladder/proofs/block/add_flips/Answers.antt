use Rattle.std.proofs.Common.{◌<◌, length, ap, arith}
use Rattle.rv_gate.proofs.Greatest.{greatest_at}
use Rattle.rv_mct.specs.Blocks.{flip_wish}
use Rattle.rv_ladder.proofs.block.add_flips.Goals as goal

pub add_flip_net-requires-clause-enough : goal.add_flip_net-requires-clause-enough
add_flip_net-requires-clause-enough c =
    let h : c.loop-flip.flip-index < length c.args.flips.now = omega arith in
    let g = greatest_at (flip_wish c.args.aux c.args.lines) c.args.flips.now c.loop-flip.flip-index c.flip-item.result h in
    let e = ap (flip_wish c.args.aux c.args.lines) c.flip-item.is in
    omega (arith, c.requires.enough)
