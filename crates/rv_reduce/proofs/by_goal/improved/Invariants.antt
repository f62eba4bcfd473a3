use Rattle.rv_reduce.specs.ByGoal.{Improves}
use Rattle.rv_reduce.proofs.by_goal.improved.Given as goal

abbrev pub invariant-loop-round : goal.invariant-loop-round
invariant-loop-round l = Improves l.goal l.fn.begun l.best
