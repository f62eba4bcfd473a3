use Rattle.std.proofs.Common.{◌≡◌, Bool, List, take}
use Rattle.rv_terms.specs.Products.{parity}
use Rattle.rv_terms.specs.inside.Put.{IsPut}
use Rattle.rv_terms.proofs.sum.replaced.Given as goal

abbrev pub invariant-loop-product : goal.invariant-loop-product
invariant-loop-product l =
    (x v y w : List Bool) → IsPut l.bit l.with x v y w
    → parity l.made.items x v ≡ parity (take l.product-index l.products) y w
