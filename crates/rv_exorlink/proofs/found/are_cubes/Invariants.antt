use Rattle.std.proofs.Common.{take, All}
use Rattle.rv_pla.specs.Cube.{IsCube}
use Rattle.rv_exorlink.proofs.found.are_cubes.Given as goal

abbrev pub invariant-loop-cube : goal.invariant-loop-cube
invariant-loop-cube l = All (IsCube l.inputs l.outputs) (take l.cube-index l.cubes)
