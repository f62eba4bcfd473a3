use Rattle.rv_exorlink.specs.Lists.{Walks}
use Rattle.rv_exorlink.proofs.way.add_way.Given as goal

abbrev pub invariant-loop-place : goal.invariant-loop-place
invariant-loop-place l = Walks l.inputs l.free l.fn.from l.to l.fn.cubes.items l.at l.cubes.items
