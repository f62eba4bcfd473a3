use Rattle.std.proofs.Common.{◌≡◌, Bool, List, take, set}
use Rattle.rv_terms.specs.Products.{parity}
use Rattle.rv_terms.proofs.sum.Sum.has_path.Given as goal

abbrev pub invariant-loop-product : goal.invariant-loop-product
invariant-loop-product l =
    (x v : List Bool) (bit : Bool)
    → parity (take l.product-index l.self.products.items) x (set v l.path bit) ≡ parity (take l.product-index l.self.products.items) x v
