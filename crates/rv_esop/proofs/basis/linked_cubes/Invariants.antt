use Rattle.std.proofs.Common.{◌≡◌, take, map}
use Rattle.rv_esop.specs.inside.Basis.{linked_cube}
use Rattle.rv_esop.proofs.basis.linked_cubes.Given as goal

abbrev pub invariant-loop-cube : goal.invariant-loop-cube
invariant-loop-cube l = l.all.items ≡ map (linked_cube l.from l.to) (take l.cube-index l.cubes)
