use Rattle.std.proofs.Common.{◌≡◌}
use Rattle.rv_gate.proofs.Setting.{IsSetting}
use Rattle.rv_real.proofs.begin.mark_garbage.Given as goal

abbrev pub invariant-loop-line : goal.invariant-loop-line
invariant-loop-line l = record {
  names : l.circuit.names ≡ l.initial.circuit.names;
  rest : l.circuit ≡ record l.initial.circuit { garbage = l.circuit.garbage };
  setting : IsSetting l.marks l.circuit.garbage l.line;
}
