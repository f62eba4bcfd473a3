use Rattle.std.proofs.Common.{refl, arith}
use Rattle.rv_mct.specs.Blocks.{split}
use Rattle.rv_mct.proofs.inside.Splits.{cut_of, middle_below}
use Rattle.rv_mct.proofs.inside.Steps.{grown_twice}
use Rattle.rv_mct.proofs.block.split.Goals as goal

pub halves-requires-clause-cut : goal.halves-requires-clause-cut
halves-requires-clause-cut c = rw c.middle-line.ensures (cut_of _ c.args.care c.args.target c.args.helper c.requires.long c.requires.many c.requires.below c.requires.free)

pub halves-requires-clause-line : goal.halves-requires-clause-line
halves-requires-clause-line c = omega (arith, c.middle-line.ensures, middle_below c.args.care c.requires.many)

pub halves-requires-2-clause-cut : goal.halves-requires-2-clause-cut
halves-requires-2-clause-cut c =
    rw (c.in_ok-halves.ensures, c.middle-line.ensures) (cut_of _ c.args.care c.args.target c.args.helper c.requires.long c.requires.many c.requires.below c.requires.free)

pub halves-requires-2-clause-line : goal.halves-requires-2-clause-line
halves-requires-2-clause-line c = omega (arith, c.middle-line.ensures, middle_below c.args.care c.requires.many)

pub returns : goal.returns
unfolding split
returns c =
    grown_twice c.args.circuit.now c.halves.new.circuit c.halves-2.new.circuit _ _ _ c.in_ok-halves.ensures c.in_ok-halves-2.ensures
    (rw (c.in_ok-halves.ensures, c.middle-line.ensures) refl)
