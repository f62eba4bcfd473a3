use Rattle.std.proofs.Common.{◌≡◌, drop}
use Rattle.rv_gate.specs.Word.{word_with}
use Rattle.rv_blif.specs.Logic.{any_holds}
use Rattle.rv_compute.proofs.sum.any_holds_at.Given as goal

abbrev pub invariant-loop-product : goal.invariant-loop-product
invariant-loop-product l =
    any_holds (drop l.product-index l.products) (word_with l.count l.set) ≡ any_holds l.products (word_with l.count l.set)
