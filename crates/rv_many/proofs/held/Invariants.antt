use Rattle.rv_many.proofs.Columns.{Held}
use Rattle.rv_many.proofs.held.Given as goal

abbrev pub invariant-loop-left : goal.invariant-loop-left
invariant-loop-left l = Held l.rows l.care l.want l.left l.on

abbrev pub decreases-loop-left : goal.decreases-loop-left
decreases-loop-left l = l.left
