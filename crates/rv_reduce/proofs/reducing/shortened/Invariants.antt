use Rattle.rv_reduce.specs.Reduced.{IsReductionOf}
use Rattle.rv_reduce.proofs.reducing.shortened.Given as goal

abbrev pub invariant-loop : goal.invariant-loop
invariant-loop l = IsReductionOf l.net l.reduced
