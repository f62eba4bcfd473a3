use Rattle.std.proofs.Common.{◌≡◌}
use Rattle.rv_gate.proofs.Setting.{IsSetting}
use Rattle.rv_perm.proofs.circuit.mark_lines.Given as goal

abbrev pub invariant-loop-line : goal.invariant-loop-line
invariant-loop-line l = record {
  names : l.circuit.names ≡ l.initial.circuit.names;
  rest : l.circuit ≡ record l.initial.circuit { constants = l.circuit.constants; garbage = l.circuit.garbage };
  constants : IsSetting l.spec.constants l.circuit.constants l.line;
  garbage : IsSetting l.spec.garbage l.circuit.garbage l.line;
}
