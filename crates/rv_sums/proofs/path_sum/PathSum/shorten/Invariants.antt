use Rattle.std.proofs.Common.{[]}
use Rattle.rv_sums.specs.inside.State.{Leads}
use Rattle.rv_sums.proofs.path_sum.PathSum.shorten.Given as goal

abbrev pub invariant-rounds : goal.invariant-rounds
invariant-rounds l = Leads [] l.fn.self l.self
