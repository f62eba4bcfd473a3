use Rattle.std.proofs.Common.{◌≡◌, drop}
use Rattle.rv_gate.specs.Word.{word_with}
use Rattle.rv_gate.specs.Gate.{xor}
use Rattle.rv_compute.specs.inside.Sums.{sum_of}
use Rattle.rv_compute.proofs.sum.sum_at.Given as goal

abbrev pub invariant-loop-product : goal.invariant-loop-product
invariant-loop-product l =
    xor l.sum (sum_of (drop l.product-index l.products) (word_with l.count l.set))
    ≡ sum_of l.products (word_with l.count l.set)
