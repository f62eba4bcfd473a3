use Rattle.rv_terms.proofs.Parities.{over_more}
use Rattle.rv_terms.proofs.sum.replaced.Goals as goal

pub loop-product-preserved : goal.loop-product-preserved
loop-product-preserved c x v y w put =
    over_more c.args.products.now _ c.loop-product.product-index y w _ _ c.loop-product-test.true
    (c.in_ok-add_replaced.ensures x v y w put) (c.loop-product.invariant x v y w put)
