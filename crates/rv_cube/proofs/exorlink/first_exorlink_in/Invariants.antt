use Rattle.rv_cube.proofs.inside.PartnerSearches.{Searched}
use Rattle.rv_cube.proofs.exorlink.first_exorlink_in.Given as goal

abbrev pub invariant-loop-i : goal.invariant-loop-i
invariant-loop-i l = Searched l.slots.inputs l.slots.cubes l.a l.near.items l.i l.end l.found
