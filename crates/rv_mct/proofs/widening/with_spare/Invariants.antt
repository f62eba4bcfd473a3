use Rattle.std.proofs.Common.{◌≡◌, ◌++◌}
use Rattle.rv_mct.proofs.Names.{found}
use Rattle.rv_mct.proofs.widening.with_spare.Given as goal

abbrev pub invariant-loop-line : goal.invariant-loop-line
invariant-loop-line l = l.wide ≡ l.names ++ found l.names l.extra l.line
