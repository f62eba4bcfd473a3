use Rattle.std.proofs.Common.{◌≤◌, ◌∙◌, arith, sym}
use Rattle.rv_mct.proofs.inside.Gates.{flips_own, wish_of_flip}
use Rattle.rv_mct.proofs.whole.add_block.Goals as goal

pub add_flips-requires-clause-own : goal.add_flips-requires-clause-own
add_flips-requires-clause-own c =
    let few : c.args.lines ≤ 64 = omega (arith, c.requires.few) in
    rw (c.flips_of-flips.ensures.flips) (flips_own c.args.gate c.args.lines few c.flips_of-flips.ensures.valid c.requires.fits)

pub flip_block-requires-clause-enough : goal.flip_block-requires-clause-enough
flip_block-requires-clause-enough c =
    let flip = c.in-Flip in
    let own = wish_of_flip c.args.aux c.args.lines flip.care flip.want flip.target c.args.gate (sym c.shape.ensures.value ∙ flip.is) in
    omega (arith, own, c.requires.enough)
