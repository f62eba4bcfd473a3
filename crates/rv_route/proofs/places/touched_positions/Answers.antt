use Rattle.std.proofs.Common.{length, ◌∙◌}
use Rattle.rv_route.proofs.inside.Routes.{Gathers, gathers}
use Rattle.rv_route.proofs.inside.Steps.{touched_all}
use Rattle.rv_route.proofs.places.touched_positions.Goals as goal

pub returns-clause-positions : goal.returns-clause-positions
returns-clause-positions c = λ row s.
    c.members_of.ensures ∙ touched_all row c.args.places.now c.args.gate c.touched.result c.positions_of.result s c.touched.ensures.lines (c.positions_of.ensures row s)

-- what is touched by the row of the table
touched : (c : goal.After-members_of) → Gathers (length c.args.places.now) c.requires.table.0 c.args.gate
touched c = gathers _ c.requires.table.0 c.args.gate c.requires.table.1.placement c.requires.fits

pub returns-clause-some : goal.returns-clause-some
returns-clause-some c = rw (returns-clause-positions c c.requires.table.0 c.requires.table.1) (touched c).some

pub returns-clause-ascending : goal.returns-clause-ascending
returns-clause-ascending c = rw (returns-clause-positions c c.requires.table.0 c.requires.table.1) (touched c).ascending
