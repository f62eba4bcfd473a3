use Rattle.rv_perm.proofs.inside.Tables.{Placed}
use Rattle.rv_perm.proofs.places.places_of.Given as goal

abbrev pub invariant-loop-place : goal.invariant-loop-place
invariant-loop-place l = Placed l.numbers l.places.items l.place
