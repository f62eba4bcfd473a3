use Rattle.rv_cube.specs.inside.Slotted.{Gains, IsTwoApartFrom}
use Rattle.rv_cube.proofs.slots.Slots.list_pairs.Given as goal

abbrev pub invariant-loop-p : goal.invariant-loop-p
invariant-loop-p l = Gains l.self.cubes (IsTwoApartFrom l.self.cubes l.fn.cube l.q l.p) l.fn.found.items l.found.items
