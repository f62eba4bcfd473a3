use Rattle.std.proofs.Common.{◌≡◌}
use Rattle.rv_terms.proofs.kept.add_kept.Given as goal

abbrev pub invariant-loop-at : goal.invariant-loop-at
invariant-loop-at l = l.kept.items ≡ l.initial.kept.items
