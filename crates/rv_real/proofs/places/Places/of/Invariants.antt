use Rattle.rv_real.specs.inside.Places.{ArePlaces}
use Rattle.rv_real.proofs.places.Places.of.Given as goal

abbrev pub invariant-loop-line : goal.invariant-loop-line
invariant-loop-line l = ArePlaces l.names l.places
