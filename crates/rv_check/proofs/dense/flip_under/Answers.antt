use Rattle.rv_check.proofs.inside.Usual.{cx_done}
use Rattle.rv_check.proofs.dense.flip_under.Goals as goal

pub returns : goal.returns
returns c = λ f is. cx_done c.args.lines c.args.control c.args.line _ f _ c.requires.fits c.place_bit.ensures (λ on marks. c.flip.ensures on marks f is)
