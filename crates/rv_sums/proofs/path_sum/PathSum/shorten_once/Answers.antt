use Rattle.rv_sums.proofs.inside.Shorter.{leads_none, leads_then}
use Rattle.rv_sums.proofs.path_sum.PathSum.shorten_once.Goals as goal

pub loop-path-init : goal.loop-path-init
loop-path-init c = leads_none c.args.self.now

pub loop-path-preserved : goal.loop-path-preserved
loop-path-preserved c =
    leads_then c.args.self.now c.loop-path.self c.shorten_at.new.self c.loop-path.invariant c.in_ok-gone.ensures
