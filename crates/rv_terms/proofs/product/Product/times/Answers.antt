use Rattle.std.proofs.Common.{refl}
use Rattle.rv_terms.proofs.Products.{value-times}
use Rattle.rv_terms.proofs.product.Product.times.Goals as goal

pub returns : goal.returns
returns c x v = value-times c.args.self c.args.other _ x v refl refl
