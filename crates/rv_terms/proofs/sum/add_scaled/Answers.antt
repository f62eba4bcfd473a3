use Rattle.std.proofs.Common.{ap, ◌∙◌}
use Rattle.rv_terms.specs.Products.{parity}
use Rattle.rv_terms.proofs.Parities.{scaled_none, scaled_more}
use Rattle.rv_terms.proofs.sum.add_scaled.Goals as goal

pub loop-product-init : goal.loop-product-init
loop-product-init c x v = scaled_none c.args.made.now.items c.args.products.now c.args.scale x v

pub loop-product-preserved : goal.loop-product-preserved
loop-product-preserved c x v =
    ap (λ t. parity t x v) c.in_ok-push.ensures.items
    ∙ scaled_more c.args.made.now.items c.args.products.now c.loop-product.made.items c.args.scale c.times.result _
    c.loop-product.product-index x v c.loop-product-test.true (c.times.ensures x v) (c.loop-product.invariant x v)
