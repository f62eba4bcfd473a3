use Rattle.rv_check.proofs.inside.Usual.{ccx_done}
use Rattle.rv_check.proofs.dense.flip_under_both.Goals as goal

pub returns : goal.returns
returns c = λ f is.
    ccx_done c.args.lines c.args.first c.args.second c.args.line _ _ f _ c.requires.fits c.place_bit.ensures c.place_bit-2.ensures (λ on marks. c.flip.ensures on marks f is)
