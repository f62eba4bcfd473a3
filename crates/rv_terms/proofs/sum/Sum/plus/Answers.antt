use Rattle.std.proofs.Common.{rules, ◌≡◌, ◌++◌, List, ap, ◌∙◌}
use Rattle.rv_terms.specs.Products.{parity}
use Rattle.rv_terms.specs.declared.product.Product.{Product}
use Rattle.rv_terms.proofs.Parities.{parity-append}
use Rattle.rv_terms.proofs.sum.Sum.plus.Goals as goal

pub returns : goal.returns
returns c x v =
    let a = c.args.self.now.products.items in
    let b = c.args.other.now.products.items in
    let e : c.extend_from_slice.new.self.items ≡ a ++ b = search rules in
    c.in_ok-sum.ensures x v ∙ ap (λ (t : List Product). parity t x v) e ∙ parity-append a b x v
