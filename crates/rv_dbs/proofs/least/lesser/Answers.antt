use Rattle.std.proofs.Common.{rules, min, get_or}
use Rattle.rv_gate.proofs.Ranges.{pushed_more}
use Rattle.rv_dbs.proofs.least.lesser.Goals as goal

pub loop-x-preserved : goal.loop-x-preserved
loop-x-preserved c =
    pushed_more (λ x. min (get_or c.args.least.now x 0) (get_or c.args.least.now (get_or c.args.jumps.now x 0) 0)) c.loop-x.x _ c.loop-x.lesser.items c.push.new.self.items
    c.in_ok-push.ensures.items c.loop-x.invariant (search rules)
