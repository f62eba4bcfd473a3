use Rattle.std.proofs.Common.{IfSome, IsTrue, is_some}
use Rattle.rv_realize.specs.Realized.{IsRealized}
use Rattle.rv_realize.proofs.best.best_of.Given as goal

abbrev pub invariant-loop-circuit : goal.invariant-loop-circuit
invariant-loop-circuit l = record {
  next : (goal.iterator-loop-circuit).can_next l.circuit-iterator;
  finite : (goal.iterator-loop-circuit).is_finite l.circuit-iterator;
  right : IfSome l.best (IsRealized l.fn.pla l.fn.options.lines);
  kept : IsTrue (is_some l.fn.first) → IsTrue (is_some l.best);
}
