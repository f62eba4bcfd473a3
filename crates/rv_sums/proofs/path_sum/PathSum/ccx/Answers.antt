use Rattle.rv_sums.proofs.inside.Moves.{ccx_leads}
use Rattle.rv_sums.proofs.path_sum.PathSum.ccx.Goals as goal

pub returns : goal.returns
returns c =
    ccx_leads c.args.a c.args.b c.args.target c.in_ok-product.product c.args.self.now c.flip.new.self c.in_ok-flip.ensures c.in_ok-product.ensures
