use Rattle.std.proofs.Common.{◌≡◌, ◌++◌, replicate}
use Rattle.rv_gate.specs.declared.circuit.Mark.TheVariants.{Input, Zero}
use Rattle.rv_gate.proofs.Prefixes.{marked}
use Rattle.rv_compute.proofs.lines.hold_zeros.Given as goal

abbrev pub invariant-loop-line : goal.invariant-loop-line
invariant-loop-line l =
    l.circuit ≡ record l.initial.circuit { constants = replicate l.first Input ++ marked l.rest l.line Zero Input }
