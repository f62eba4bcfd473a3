use Rattle.rv_sums.proofs.inside.Gates.{leads_shorter}
use Rattle.rv_sums.proofs.path_sum.PathSum.operate.Goals as goal

pub returns-in_ok-shorten-in-H : goal.returns-in_ok-shorten-in-H
returns-in_ok-shorten-in-H c =
    leads_shorter c.args.op c.args.self.now c.step.new.self c.shorten.new.self c.in_ok-step.ensures c.in_ok-shorten-in-H.ensures
