use Rattle.rv_compute.proofs.inside.Ends.{HaveFirst}
use Rattle.rv_compute.proofs.start.first_held.Given as goal

abbrev pub invariant-loop-line : goal.invariant-loop-line
invariant-loop-line l = HaveFirst l.inputs l.line l.held.items
