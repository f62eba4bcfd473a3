use Rattle.std.proofs.Common.{get_or, refl}
use Rattle.rv_gate.proofs.Ranges.{pushed_more}
use Rattle.rv_dbs.proofs.least.twice.Goals as goal

pub loop-x-preserved : goal.loop-x-preserved
loop-x-preserved c =
    pushed_more (λ x. get_or c.args.jumps.now (get_or c.args.jumps.now x 0) 0) c.loop-x.x _ c.loop-x.twice.items c.push.new.self.items
    c.in_ok-push.ensures.items c.loop-x.invariant refl
