use Rattle.rv_cube.proofs.inside.SettledList.{Fills}
use Rattle.rv_cube.proofs.reduce.fill.Given as goal

abbrev pub invariant-loop-i : goal.invariant-loop-i
invariant-loop-i l = Fills l.fn.slots.inputs l.cubes l.i l.slots
