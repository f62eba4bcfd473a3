use Rattle.rv_hadamards.specs.Becomes.{Becomes}
use Rattle.rv_hadamards.proofs.moving.round.Given as goal

abbrev pub invariant-loop-line : goal.invariant-loop-line
invariant-loop-line l = Becomes l.lines l.fn.ops.items l.made.items
