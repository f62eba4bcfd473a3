use Rattle.rv_compare.proofs.inside.Drawn.{NoneHold}
use Rattle.rv_compare.proofs.drawn.none_holds.Given as goal

abbrev pub invariant-loop-product : goal.invariant-loop-product
invariant-loop-product l = NoneHold l.initial.diagram l.diagram l.own l.products l.product-index l.none
