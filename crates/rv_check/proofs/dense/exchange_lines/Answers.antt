use Rattle.rv_check.proofs.inside.Usual.{swap_done}
use Rattle.rv_check.proofs.dense.exchange_lines.Goals as goal

pub returns : goal.returns
returns c = λ f is. swap_done c.args.lines c.args.a c.args.b f _ (λ on one other. c.exchange.ensures on one other f is)
