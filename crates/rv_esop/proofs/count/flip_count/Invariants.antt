use Rattle.std.proofs.Common.{◌≡◌, ◌+◌, ◌*◌, ◌≤◌, length, drop}
use Rattle.rv_esop.specs.Cascade.{flips_of_cubes}
use Rattle.rv_esop.proofs.count.flip_count.Given as goal

abbrev pub invariant-loop-cube : goal.invariant-loop-cube
invariant-loop-cube l = record {
  so_far : l.count + length (flips_of_cubes l.inputs l.outputs (drop l.cube-index l.cubes))
      ≡ length (flips_of_cubes l.inputs l.outputs l.cubes);
  few : l.count ≤ 16 * l.cube-index;
}
