use Rattle.std.proofs.Common.{◌≡◌, ◌-◌, ◌++◌}
use Rattle.rv_esop.specs.inside.Flips.{flips_from}
use Rattle.rv_esop.proofs.circuit.push_flips.Given as goal

abbrev pub invariant-loop-output : goal.invariant-loop-output
invariant-loop-output l = record {
  rest_same : l.circuit ≡ record l.initial.circuit { gates = l.circuit.gates };
  so_far : l.circuit.gates ++ flips_from l.inputs l.cube l.output (l.outputs - l.output)
      ≡ l.initial.circuit.gates ++ flips_from l.inputs l.cube 0 l.outputs;
}
