use Rattle.std.proofs.Common.{◌≡◌, ◌++◌, drop}
use Rattle.rv_esop.specs.Cascade.{esop_lines, flips_of_cubes}
use Rattle.rv_esop.proofs.circuit.cascade.Given as goal

abbrev pub invariant-loop-cube : goal.invariant-loop-cube
invariant-loop-cube l = record {
  rest_same : l.circuit ≡ record (esop_lines l.inputs l.outputs) { gates = l.circuit.gates };
  so_far : l.circuit.gates ++ flips_of_cubes l.inputs l.outputs (drop l.cube-index l.cubes.cubes)
      ≡ flips_of_cubes l.inputs l.outputs l.cubes.cubes;
}
