use Rattle.rv_sums.proofs.inside.Moves.{cz_leads}
use Rattle.rv_sums.proofs.path_sum.PathSum.cz.Goals as goal

pub returns : goal.returns
returns c =
    cz_leads c.args.a c.args.b c.in_ok-product.product c.args.self.now c.turn.new.self c.in_ok-turn.ensures c.in_ok-product.ensures
