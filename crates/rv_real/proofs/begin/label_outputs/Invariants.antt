use Rattle.std.proofs.Common.{◌≡◌}
use Rattle.rv_gate.specs.inside.CircuitView.{labels_in}
use Rattle.rv_gate.proofs.Setting.{IsSetting}
use Rattle.rv_real.proofs.begin.label_outputs.Given as goal

abbrev pub invariant-loop-line : goal.invariant-loop-line
invariant-loop-line l = record {
  names : l.circuit.names ≡ l.initial.circuit.names;
  rest : l.circuit ≡ record l.initial.circuit { output_labels = l.circuit.output_labels };
  setting : IsSetting (labels_in l.labels) l.circuit.output_labels l.line;
}
