use Rattle.rv_check.proofs.inside.Usual.{x_done}
use Rattle.rv_check.proofs.dense.flip_line.Goals as goal

pub returns : goal.returns
returns c = λ f is. x_done c.args.lines c.args.line f _ (λ on marks. c.flip.ensures on marks f is)
