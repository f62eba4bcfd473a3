use Rattle.rv_check.proofs.inside.Usual.{cswap_done}
use Rattle.rv_check.proofs.dense.exchange_under.Goals as goal

pub returns : goal.returns
returns c = λ f is. cswap_done c.args.lines c.args.control c.args.a c.args.b _ f _ c.requires.fits c.place_bit.ensures (λ on one other. c.exchange.ensures on one other f is)
