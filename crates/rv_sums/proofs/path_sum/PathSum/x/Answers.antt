use Rattle.rv_sums.proofs.inside.Moves.{x_leads}
use Rattle.rv_sums.proofs.path_sum.PathSum.x.Goals as goal

pub returns : goal.returns
returns c =
    x_leads c.args.line c.in_ok-one.one c.args.self.now c.flip.new.self c.in_ok-flip.ensures c.in_ok-one.ensures
