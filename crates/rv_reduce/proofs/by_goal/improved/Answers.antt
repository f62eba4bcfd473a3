use Rattle.rv_net.specs.Op.{Network}
use Rattle.rv_reduce.proofs.ByGoal.{further}
use Rattle.rv_reduce.proofs.by_goal.improved.Goals as goal

pub loop-round-init : goal.loop-round-init
loop-round-init c =
    let begun : Network = c.args.begun in
    let reduced : Network = c.in_ok-reduced.reduced in
    let opened : Network = c.in_ok-opened.opened in
    further c.args.goal begun opened c.in_ok-best.best
    (further c.args.goal begun reduced opened c.in_ok-reduced.ensures c.in_ok-opened.ensures)
    c.in_ok-best.ensures

pub loop-round-preserved : goal.loop-round-preserved
loop-round-preserved c =
    let begun : Network = c.args.begun in
    let other : Network = c.in_ok-other.other in
    further c.args.goal begun other c.in_ok-best-2.best (further c.args.goal begun c.loop-round.best other c.loop-round.invariant c.in_ok-other.ensures)
    c.in_ok-best-2.ensures
