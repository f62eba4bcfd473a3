use Rattle.rv_realize.specs.Realized.{IsInPlace}
use Rattle.rv_realize.proofs.perm.best_of.Given as goal

abbrev pub invariant-loop-circuit : goal.invariant-loop-circuit
invariant-loop-circuit l = IsInPlace l.fn.spec l.best
