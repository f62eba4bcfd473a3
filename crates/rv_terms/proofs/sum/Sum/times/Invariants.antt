use Rattle.std.proofs.Common.{◌≡◌, Bool, ◌&&◌, List, take}
use Rattle.rv_terms.specs.Products.{parity, odd}
use Rattle.rv_terms.proofs.sum.Sum.times.Given as goal

abbrev pub invariant-loop-product : goal.invariant-loop-product
invariant-loop-product l =
    (x v : List Bool) → parity l.made.items x v ≡ (parity (take l.product-index l.self.products.items) x v && odd l.other x v)
