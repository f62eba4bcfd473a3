use Rattle.std.proofs.Common.{rules, true, ◌≡◌, List, sym, ◌∙◌, ap}
use Rattle.rv_terms.specs.Products.{parity}
use Rattle.rv_terms.specs.declared.product.Product.{Product}
use Rattle.rv_terms.proofs.Parities.{same_products}
use Rattle.rv_terms.proofs.kept.are_same.Goals as goal

pub returns : goal.returns
returns c same x v =
    let on : c.eq.result ≡ true = search rules in
    ap (λ (t : List Product). parity t x v) (same_products c.args.a.now c.args.b.now (sym c.eq.ensures ∙ on))
