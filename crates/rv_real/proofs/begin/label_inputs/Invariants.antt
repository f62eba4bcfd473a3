use Rattle.std.proofs.Common.{◌≡◌}
use Rattle.rv_gate.specs.inside.CircuitView.{labels_in}
use Rattle.rv_gate.proofs.Setting.{IsSetting}
use Rattle.rv_real.proofs.begin.label_inputs.Given as goal

abbrev pub invariant-loop-line : goal.invariant-loop-line
invariant-loop-line l = record {
  names : l.circuit.names ≡ l.initial.circuit.names;
  rest : l.circuit ≡ record l.initial.circuit { input_labels = l.circuit.input_labels };
  setting : IsSetting (labels_in l.labels) l.circuit.input_labels l.line;
}
