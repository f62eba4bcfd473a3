use Rattle.std.proofs.Common.{[]}
use Rattle.rv_sums.proofs.inside.Taken.{moves_none, moves_then}
use Rattle.rv_sums.proofs.taking.Following.forget_large.Goals as goal

pub loop-line-init : goal.loop-line-init
loop-line-init c flips = moves_none flips c.args.self.now

pub loop-line-preserved : goal.loop-line-preserved
loop-line-preserved c flips =
    moves_then [] flips c.args.self.now c.loop-line.self c.forget.new.self (c.loop-line.invariant flips) (c.in_ok-forget.ensures flips)
