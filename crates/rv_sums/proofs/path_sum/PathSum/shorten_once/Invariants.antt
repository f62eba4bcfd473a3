use Rattle.std.proofs.Common.{[]}
use Rattle.rv_sums.specs.inside.State.{Leads}
use Rattle.rv_sums.proofs.path_sum.PathSum.shorten_once.Given as goal

abbrev pub invariant-loop-path : goal.invariant-loop-path
invariant-loop-path l = Leads [] l.fn.self l.self
