use Rattle.rv_cube.proofs.inside.ReedMuller.{IsFilling}
use Rattle.rv_cube.proofs.reed_muller.cubes_of.Given as goal

abbrev pub invariant-loop-s : goal.invariant-loop-s
invariant-loop-s l = IsFilling l.inputs l.needed l.s l.cubes.items
