use Rattle.std.proofs.Common.{◌≡◌, ◌++◌, replicate}
use Rattle.rv_gate.specs.declared.circuit.Mark.TheVariants.{Input, Zero}
use Rattle.rv_gate.proofs.Prefixes.{marked}
use Rattle.rv_esop.proofs.lines.hold_zeros.Given as goal

abbrev pub invariant-loop-output : goal.invariant-loop-output
invariant-loop-output l =
    l.circuit ≡ record l.initial.circuit
    { constants = replicate l.inputs Input ++ marked l.outputs l.output Zero Input }
