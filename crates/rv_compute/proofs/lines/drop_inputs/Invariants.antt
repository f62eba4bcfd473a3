use Rattle.std.proofs.Common.{◌≡◌, ◌++◌, replicate, true, false}
use Rattle.rv_gate.proofs.Prefixes.{marked}
use Rattle.rv_compute.proofs.lines.drop_inputs.Given as goal

abbrev pub invariant-loop-input : goal.invariant-loop-input
invariant-loop-input l =
    l.circuit ≡ record l.initial.circuit
    { garbage = marked l.inputs l.input true false ++ (replicate l.outputs false ++ replicate l.work true) }
