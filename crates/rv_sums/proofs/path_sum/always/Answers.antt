use Rattle.std.proofs.Common.{◌∙◌}
use Rattle.rv_terms.proofs.Products.{value-always}
use Rattle.rv_sums.proofs.path_sum.always.Goals as goal

pub returns : goal.returns
returns c x v = c.in_ok-sum.ensures x v ∙ value-always x v
