use Rattle.std.proofs.Common.{[]}
use Rattle.rv_sums.specs.inside.State.{Moves}
use Rattle.rv_sums.proofs.taking.Following.take_one.Given as goal

abbrev pub invariant-loop-at : goal.invariant-loop-at
invariant-loop-at l = Moves [] l.flips l.fn.self l.self
