use Rattle.rv_cube.proofs.inside.Listing.{NearBelow}
use Rattle.rv_cube.proofs.slots.Slots.near.Given as goal

abbrev pub invariant-loop-p : goal.invariant-loop-p
invariant-loop-p l = NearBelow l.self.inputs l.self.cubes l.cube l.p l.found.items
