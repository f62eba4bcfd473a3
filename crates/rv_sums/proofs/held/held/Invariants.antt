use Rattle.std.proofs.Common.{Bool, List}
use Rattle.rv_sums.specs.Finding.{HasConstants}
use Rattle.rv_sums.proofs.held.held.Given as goal

abbrev pub invariant-rounds : goal.invariant-rounds
invariant-rounds l = (word : List Bool) → HasConstants l.marks word → HasConstants l.made.items word
