use Rattle.std.proofs.Common.{arith}
use Rattle.rv_sums.proofs.taking.Following.with_flip.Goals as goal

pub returns-clause-facts : goal.returns-clause-facts
returns-clause-facts c u len h = c.in_ok-facts.ensures u (omega (arith, len, c.len-lines.ensures)) h
