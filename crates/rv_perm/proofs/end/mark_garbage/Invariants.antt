use Rattle.std.proofs.Common.{◌≡◌}
use Rattle.rv_gate.proofs.Setting.{IsSetting}
use Rattle.rv_perm.proofs.end.mark_garbage.Given as goal

abbrev pub invariant-loop-line : goal.invariant-loop-line
invariant-loop-line l = record {
  table : l.spec.table ≡ l.initial.spec.table;
  rest : l.spec ≡ record l.initial.spec { garbage = l.spec.garbage };
  setting : IsSetting l.marks l.spec.garbage l.line;
}
