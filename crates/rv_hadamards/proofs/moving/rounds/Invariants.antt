use Rattle.rv_hadamards.specs.Becomes.{Becomes}
use Rattle.rv_hadamards.proofs.moving.rounds.Given as goal

abbrev pub invariant-loop : goal.invariant-loop
invariant-loop l = Becomes l.lines l.fn.ops.items l.made.items
