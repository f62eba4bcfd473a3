use Rattle.std.proofs.Common.{◌≤◌, arith}
use Rattle.rv_mct.proofs.inside.Gates.{flips_own}
use Rattle.rv_ladder.proofs.block.add_gate.Goals as goal

pub add_flips-requires-clause-own : goal.add_flips-requires-clause-own
add_flips-requires-clause-own c =
    let few : c.args.lines ≤ 64 = omega (arith, c.requires.few) in
    rw (c.flips_of-flips.ensures.flips) (flips_own c.args.gate c.args.lines few c.flips_of-flips.ensures.valid c.requires.fits)
