use Rattle.std.proofs.Common.{rules, get_or, ◌≡◌, List, sym, ◌∙◌, ap}
use Rattle.rv_terms.specs.Products.{parity}
use Rattle.rv_terms.specs.declared.product.Product.{Product}
use Rattle.rv_terms.specs.Products.{always}
use Rattle.rv_ends.proofs.Ends.{only_one}
use Rattle.rv_ends.proofs.constant.constant_of.Goals as goal

pub returns-then-eq : goal.returns-then-eq
returns-then-eq c x v =
    let first : get_or c.products-products.result.now 0 always ≡ always = search rules in
    ap (λ (t : List Product). parity t x v) (sym c.products-products.ensures)
    ∙ only_one c.products-products.result.now x v c.if-products-eq1.true first
