use Rattle.std.proofs.Common.{length}
use Rattle.rv_route.proofs.inside.Moving.{AreAscending-wider}
use Rattle.rv_route.proofs.gathering.gather.Goals as goal

pub gathering-moves-requires-clause-ascending : goal.gathering-moves-requires-clause-ascending
gathering-moves-requires-clause-ascending c = rw c.deref.ensures.0 (AreAscending-wider 0 _ 64 _ c.requires.few c.touched_positions-positions.ensures.ascending)

pub follow-requires-clause-within : goal.follow-requires-clause-within
follow-requires-clause-within c =
    rw c.deref-2.ensures.0 (c.gathering-moves.ensures.within (length c.args.places.now) (rw c.deref.ensures.0 c.touched_positions-positions.ensures.ascending))

pub returns-clause-within : goal.returns-clause-within
returns-clause-within c = c.gathering-moves.ensures.within 64 (rw c.deref.ensures.0 (AreAscending-wider 0 _ 64 _ c.requires.few c.touched_positions-positions.ensures.ascending))
