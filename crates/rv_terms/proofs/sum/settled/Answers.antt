use Rattle.std.proofs.Common.{arith, ap, ◌∙◌}
use Rattle.rv_terms.specs.Products.{parity}
use Rattle.rv_terms.proofs.Parities.{parity-permuted, over_more, over_all}
use Rattle.rv_terms.proofs.sum.settled.Goals as goal

pub loop-product-preserved : goal.loop-product-preserved
loop-product-preserved c x v =
    over_more c.deref-product-items.result.now _ c.loop-product.product-index x v _ _ c.loop-product-test.true
    (c.in_ok-toggle.ensures x v) (c.loop-product.invariant x v)

pub returns : goal.returns
returns c x v =
    over_all c.deref-product-items.result.now c.loop-product.product-index x v _ c.loop-product-test.false (omega arith)
    (c.loop-product.invariant x v)
    ∙ ap (λ t. parity t x v) c.deref-product-items.ensures.value
    ∙ parity-permuted _ _ x v c.sort_unstable.ensures.permutation
