use Rattle.std.proofs.Common.{subst}
use Rattle.rv_net.specs.Op.{Network}
use Rattle.rv_reduce.specs.ByGoal.{Improves}
use Rattle.rv_reduce.proofs.ByGoal.{reduction-by}
use Rattle.rv_reduce.proofs.by_goal.reduce_for.Goals as goal

pub returns : goal.returns
returns c =
    let best : Network = c.in_ok-best.best in
    reduction-by c.args.goal c.args.net.now best c.recall_invariant.ensures
    (subst (λ (begun : Network). Improves c.args.goal begun best) c.in_ok-begun.ensures c.in_ok-best.ensures)
