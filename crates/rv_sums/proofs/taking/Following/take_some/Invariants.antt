use Rattle.std.proofs.Common.{[]}
use Rattle.rv_sums.specs.inside.State.{Moves}
use Rattle.rv_sums.proofs.taking.Following.take_some.Given as goal

abbrev pub invariant-rounds : goal.invariant-rounds
invariant-rounds l = Moves [] l.flips l.fn.self l.self
