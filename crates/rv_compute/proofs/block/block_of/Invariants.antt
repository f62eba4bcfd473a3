use Rattle.rv_compute.proofs.inside.Adding.{HaveAdded}
use Rattle.rv_compute.proofs.block.block_of.Given as goal

abbrev pub invariant-loop-product : goal.invariant-loop-product
invariant-loop-product l = HaveAdded l.lines l.places l.target l.products l.product-index l.gates.items
