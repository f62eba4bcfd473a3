use Rattle.rv_ends.proofs.constant.turns_of.Given as goal

abbrev pub invariant-loop-turns : goal.invariant-loop-turns
invariant-loop-turns l = Unit {0}
