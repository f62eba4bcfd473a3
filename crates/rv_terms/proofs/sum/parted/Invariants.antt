use Rattle.std.proofs.Common.{◌≡◌, Bool, ◌&&◌, List, take}
use Rattle.rv_gate.specs.Gate.{xor}
use Rattle.rv_terms.specs.Products.{parity}
use Rattle.rv_terms.specs.inside.Put.{IsPut}
use Rattle.rv_terms.specs.declared.product.Product.{Product}
use Rattle.rv_terms.proofs.sum.parted.Given as goal

abbrev pub invariant-loop-product : goal.invariant-loop-product
invariant-loop-product l =
    (given : List Product) (x v y w : List Bool) → IsPut l.bit given x v y w
    → parity (take l.product-index l.products) y w
    ≡ xor (parity l.with.items x v && parity given x v) (parity l.rest.items x v)
