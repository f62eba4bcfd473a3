use Rattle.rv_compute.proofs.inside.Summing.{IsSumBelow}
use Rattle.rv_compute.proofs.sum.is_sum.Given as goal

abbrev pub invariant-loop-set : goal.invariant-loop-set
invariant-loop-set l = IsSumBelow l.node l.count l.start l.products l.set
