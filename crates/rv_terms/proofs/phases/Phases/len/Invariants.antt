use Rattle.rv_terms.proofs.phases.Phases.len.Given as goal

abbrev pub invariant-loop-kept : goal.invariant-loop-kept
invariant-loop-kept l = Unit {0}
