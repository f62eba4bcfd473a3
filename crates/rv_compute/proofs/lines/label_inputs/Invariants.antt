use Rattle.std.proofs.Common.{◌≡◌, take}
use Rattle.rv_compute.specs.Lines.{with_labels}
use Rattle.rv_compute.proofs.lines.label_inputs.Given as goal

abbrev pub invariant-loop-input : goal.invariant-loop-input
invariant-loop-input l =
    l.circuit ≡ record l.initial.circuit
    { input_labels = with_labels l.initial.circuit.input_labels 0 (take l.input l.logic.inputs) }
