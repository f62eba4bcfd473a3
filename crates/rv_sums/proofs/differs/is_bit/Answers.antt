use Rattle.rv_terms.specs.Products.{odd}
use Rattle.rv_sums.proofs.inside.Words.{same_bit}
use Rattle.rv_sums.proofs.differs.is_bit.Goals as goal

pub returns : goal.returns
returns c on x v =
    same_bit (odd c.args.sum.now x v) c.args.bit (odd c.in_ok-other.other x v) (odd c.in_ok-one.one x v)
    (c.in_ok-other.ensures x v) (c.in_ok-one.ensures x v) (c.is_nought-is.ensures on x v)
