use Rattle.std.proofs.Common.{[]}
use Rattle.rv_sums.specs.inside.State.{Moves}
use Rattle.rv_sums.proofs.taking.Following.look_ahead.Given as goal

abbrev pub invariant-ahead : goal.invariant-ahead
invariant-ahead l = Moves [] l.flips l.fn.self l.self × Moves [] l.flips l.fn.self l.trial
