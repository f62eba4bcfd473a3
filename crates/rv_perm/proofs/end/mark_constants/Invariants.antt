use Rattle.std.proofs.Common.{◌≡◌}
use Rattle.rv_gate.proofs.Setting.{IsSetting}
use Rattle.rv_perm.proofs.end.mark_constants.Given as goal

abbrev pub invariant-loop-line : goal.invariant-loop-line
invariant-loop-line l = record {
  table : l.spec.table ≡ l.initial.spec.table;
  rest : l.spec ≡ record l.initial.spec { constants = l.spec.constants };
  setting : IsSetting l.marks l.spec.constants l.line;
}
