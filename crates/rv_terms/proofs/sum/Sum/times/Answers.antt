use Rattle.std.proofs.Common.{◌+◌, ◌&&◌, List, take, ap, sym, ◌∙◌}
use Rattle.rv_terms.specs.Products.{parity}
use Rattle.rv_terms.specs.declared.product.Product.{Product}
use Rattle.rv_terms.proofs.Parities.{times_more}
use Rattle.rv_terms.proofs.sum.Sum.times.Goals as goal

pub loop-product-preserved : goal.loop-product-preserved
loop-product-preserved c x v =
    let k = c.loop-product.product-index in
    let same = c.deref-product-items.ensures.value in
    let before = c.loop-product.invariant x v in
    times_more c.deref-product-items.result.now _ k x v _ _ _ c.loop-product-test.true
    (c.in_ok-add_scaled.ensures x v)
    (before ∙ ap (λ (t : List Product). parity (take k t) x v && parity c.args.other.now.products.items x v) (sym same)
    ∙ ap (λ (t : List Product). parity (take k c.deref-product-items.result.now) x v && parity t x v) (sym c.deref.ensures.value))
    ∙ ap (λ (t : List Product). parity (take (k + 1) t) x v && parity c.deref.result.now x v) same
    ∙ ap (λ (t : List Product). parity (take (k + 1) c.args.self.now.products.items) x v && parity t x v) c.deref.ensures.value
