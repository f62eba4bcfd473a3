use Rattle.std.proofs.Common.{◌≡◌, Bool, ◌&&◌, List, take}
use Rattle.rv_gate.specs.Gate.{xor}
use Rattle.rv_terms.specs.Products.{value, parity}
use Rattle.rv_terms.proofs.sum.add_scaled.Given as goal

abbrev pub invariant-loop-product : goal.invariant-loop-product
invariant-loop-product l =
    (x v : List Bool) → parity l.made.items x v
    ≡ xor (parity l.initial.made.items x v) (value l.scale x v && parity (take l.product-index l.products) x v)
