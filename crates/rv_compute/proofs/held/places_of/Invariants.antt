use Rattle.rv_compute.proofs.inside.Placing.{ArePlacedBelow}
use Rattle.rv_compute.proofs.held.places_of.Given as goal

abbrev pub invariant-loop-i : goal.invariant-loop-i
invariant-loop-i l = ArePlacedBelow l.logic l.held l.target l.operands l.i l.places.items
