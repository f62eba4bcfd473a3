use Rattle.std.proofs.Common.{◌+◌, List, take, set, ap, sym, ◌∙◌}
use Rattle.rv_terms.specs.Products.{parity}
use Rattle.rv_terms.specs.declared.product.Product.{Product}
use Rattle.rv_terms.proofs.Puts.{free_more}
use Rattle.rv_terms.proofs.sum.Sum.has_path.Goals as goal

pub loop-product-preserved : goal.loop-product-preserved
loop-product-preserved c x v bit =
    let k = c.loop-product.product-index in
    let same = c.deref-product-items.ensures.value in
    ap (λ (t : List Product). parity (take (k + 1) t) x (set v c.args.path bit)) (sym same)
    ∙ free_more c.deref-product-items.result.now _ k c.args.path x v bit c.loop-product-test.true (sym c.if-has_path.ensures)
    (ap (λ (t : List Product). parity (take k t) x (set v c.args.path bit)) same ∙ c.loop-product.invariant x v bit
    ∙ ap (λ (t : List Product). parity (take k t) x v) (sym same))
    ∙ ap (λ (t : List Product). parity (take (k + 1) t) x v) same
