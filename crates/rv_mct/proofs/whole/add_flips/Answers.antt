use Rattle.std.proofs.Common.{◌<◌, length, ap, arith}
use Rattle.rv_mct.specs.Blocks.{flip_wish, flip_block}
use Rattle.rv_gate.proofs.Greatest.{greatest_at}
use Rattle.rv_mct.proofs.inside.Steps.{grown_none, grown_next}
use Rattle.rv_mct.proofs.whole.add_flips.Goals as goal

pub loop-flip-init : goal.loop-flip-init
loop-flip-init c = grown_none c.args.circuit.now (flip_block c.args.aux c.args.lines c.args.extra)

pub flip_block-requires-clause-enough : goal.flip_block-requires-clause-enough
flip_block-requires-clause-enough c =
    let h : c.loop-flip.flip-index < length c.args.flips.now = omega arith in
    let g = greatest_at (flip_wish c.args.aux c.args.lines) c.args.flips.now c.loop-flip.flip-index c.flip-item.result h in
    let e = ap (flip_wish c.args.aux c.args.lines) c.flip-item.is in
    omega (arith, c.requires.enough)

pub loop-flip-preserved : goal.loop-flip-preserved
loop-flip-preserved c =
    let h : c.loop-flip.flip-index < length c.args.flips.now = omega arith in
    grown_next c.args.circuit.now c.loop-flip.circuit c.flip_block.new.circuit (flip_block c.args.aux c.args.lines c.args.extra) c.args.flips.now c.loop-flip.flip-index c.flip-item.result h c.flip-item.is
    c.loop-flip.invariant c.in_ok-flip_block.ensures
