use Rattle.std.proofs.Common.{List, set, ap, ◌∙◌}
use Rattle.rv_terms.specs.Products.{parity}
use Rattle.rv_terms.specs.inside.Put.{IsPut}
use Rattle.rv_terms.specs.declared.product.Product.{Product}
use Rattle.rv_terms.proofs.Puts.{put_path}
use Rattle.rv_terms.proofs.sum.Sum.replaced_path.Goals as goal

pub returns : goal.returns
returns c x v lt =
    let with = c.args.with.now.products.items in
    let put : IsPut c.of_path.result c.deref-2.result.now x v x (set v c.args.path (parity with x v)) =
    rw (c.deref-2.ensures.value, c.of_path.ensures.alone) (put_path c.args.path with x v lt) in
    c.in_ok-sum.ensures x v _ _ put ∙ ap (λ (t : List Product). parity t x (set v c.args.path (parity with x v))) c.deref.ensures.value
