use Rattle.std.proofs.Common.{[]}
use Rattle.rv_cube.specs.inside.Slotted.{Gains, IsTwoApartBelow}
use Rattle.rv_cube.proofs.slots.Slots.two_apart.Given as goal

abbrev pub invariant-loop-q : goal.invariant-loop-q
invariant-loop-q l = Gains l.self.cubes (IsTwoApartBelow l.self.cubes l.cube l.q) [] l.found.items
