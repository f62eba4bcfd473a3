use Rattle.std.proofs.Common.{arith}
use Rattle.rv_sums.proofs.inside.Words.{nought_bit}
use Rattle.rv_sums.proofs.differs.is_nought.Goals as goal

pub returns : goal.returns
returns c on x v = nought_bit c.args.sum.now c.products-products.result.now x v c.products-products.ensures (omega arith)
