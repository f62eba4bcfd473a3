use Rattle.std.proofs.Common.{[]}
use Rattle.rv_sums.specs.inside.State.{Moves}
use Rattle.rv_sums.proofs.taking.Following.finish.Given as goal

abbrev pub invariant-flips : goal.invariant-flips
invariant-flips l = Moves [] l.flips l.fn.self l.self
