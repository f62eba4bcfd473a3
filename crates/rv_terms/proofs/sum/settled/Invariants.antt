use Rattle.std.proofs.Common.{◌≡◌, Bool, List, take}
use Rattle.rv_terms.specs.Products.{parity}
use Rattle.rv_terms.proofs.sum.settled.Given as goal

abbrev pub invariant-loop-product : goal.invariant-loop-product
invariant-loop-product l = (x v : List Bool) → parity l.made.items x v ≡ parity (take l.product-index l.product-items) x v
