use Rattle.rv_cube.proofs.idle.next_word.Given as goal

abbrev pub invariant-loop-input : goal.invariant-loop-input
invariant-loop-input l = Unit {0}
