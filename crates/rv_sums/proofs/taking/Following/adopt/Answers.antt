use Rattle.std.proofs.Common.{[]}
use Rattle.rv_sums.proofs.inside.Taken.{moves_then}
use Rattle.rv_sums.proofs.taking.Following.adopt.Goals as goal

pub returns : goal.returns
returns c flips first old trial = moves_then [] flips first c.args.trial.now c.in_ok-next.next trial (c.in_ok-next.ensures flips)
