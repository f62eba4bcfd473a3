use Rattle.std.proofs.Common.{ℕ, subst, refl, sym, arith}
use Rattle.rv_mct.specs.inside.Long.{IsCut}
use Rattle.rv_mct.proofs.inside.Splits.{cut_of, middle_below}
use Rattle.rv_ladder.specs.Ladder.{split_net}
use Rattle.rv_ladder.proofs.Steps.{then}
use Rattle.rv_ladder.proofs.block.add_split.Goals as goal

pub add_halves-requires-clause-cut : goal.add_halves-requires-clause-cut
add_halves-requires-clause-cut c =
    let P : ℕ → Type 0 = λ line. IsCut c.args.lines c.args.care c.args.t line c.args.helper in
    subst P (sym c.middle-line.ensures) (cut_of c.args.lines c.args.care c.args.t c.args.helper c.requires.long c.requires.many c.requires.below c.requires.free)

pub add_halves-requires-clause-line : goal.add_halves-requires-clause-line
add_halves-requires-clause-line c = omega (arith, c.middle-line.ensures, middle_below c.args.care c.requires.many)

pub add_halves-requires-2-clause-cut : goal.add_halves-requires-2-clause-cut
add_halves-requires-2-clause-cut c =
    let P : ℕ → Type 0 = λ line. IsCut c.args.lines c.args.care c.args.t line c.args.helper in
    subst P (sym c.middle-line.ensures) (cut_of c.args.lines c.args.care c.args.t c.args.helper c.requires.long c.requires.many c.requires.below c.requires.free)

pub add_halves-requires-2-clause-line : goal.add_halves-requires-2-clause-line
add_halves-requires-2-clause-line c = omega (arith, c.middle-line.ensures, middle_below c.args.care c.requires.many)

pub returns : goal.returns
unfolding split_net
returns c =
    then c.args.ops.now.items c.add_halves.new.ops.items c.add_halves-2.new.ops.items _ _ _ c.in_ok-add_halves.ensures c.in_ok-add_halves-2.ensures
    (rw c.middle-line.ensures refl)
