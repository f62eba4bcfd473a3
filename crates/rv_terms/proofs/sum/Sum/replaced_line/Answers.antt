use Rattle.std.proofs.Common.{List, set, ap, ◌∙◌}
use Rattle.rv_terms.specs.Products.{parity}
use Rattle.rv_terms.specs.inside.Put.{IsPut}
use Rattle.rv_terms.specs.declared.product.Product.{Product}
use Rattle.rv_terms.proofs.Puts.{put_line}
use Rattle.rv_terms.proofs.sum.Sum.replaced_line.Goals as goal

pub returns : goal.returns
returns c x v lt =
    let with = c.args.with.now.products.items in
    let put : IsPut c.of_line.result c.deref-2.result.now x v (set x c.args.line (parity with x v)) v =
    rw (c.deref-2.ensures.value, c.of_line.ensures.alone) (put_line c.args.line with x v lt) in
    c.in_ok-sum.ensures x v _ _ put ∙ ap (λ (t : List Product). parity t (set x c.args.line (parity with x v)) v) c.deref.ensures.value
