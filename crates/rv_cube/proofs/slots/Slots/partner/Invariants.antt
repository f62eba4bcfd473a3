use Rattle.rv_cube.specs.inside.Slotted.{IsLeast, IsPartnerBelow}
use Rattle.rv_cube.proofs.slots.Slots.partner.Given as goal

abbrev pub invariant-loop-p : goal.invariant-loop-p
invariant-loop-p l = IsLeast (IsPartnerBelow l.self.inputs l.self.cubes l.a l.b l.cube l.p) l.best
