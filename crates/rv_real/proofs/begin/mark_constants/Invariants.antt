use Rattle.std.proofs.Common.{◌≡◌}
use Rattle.rv_gate.proofs.Setting.{IsSetting}
use Rattle.rv_real.proofs.begin.mark_constants.Given as goal

abbrev pub invariant-loop-line : goal.invariant-loop-line
invariant-loop-line l = record {
  names : l.circuit.names ≡ l.initial.circuit.names;
  rest : l.circuit ≡ record l.initial.circuit { constants = l.circuit.constants };
  setting : IsSetting l.marks l.circuit.constants l.line;
}
