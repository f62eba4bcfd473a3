use Rattle.rv_exorlink.specs.Lists.{IsSameBut}
use Rattle.rv_exorlink.proofs.change.change_all.Given as goal

abbrev pub invariant-loop-slot : goal.invariant-loop-slot
invariant-loop-slot l = IsSameBut l.inputs l.free l.fn.cubes.items l.cubes.items
