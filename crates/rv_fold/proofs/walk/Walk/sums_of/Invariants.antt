use Rattle.rv_fold.specs.inside.Standing.{Stands}
use Rattle.rv_fold.proofs.walk.Walk.sums_of.Given as goal

abbrev pub invariant-loop-place : goal.invariant-loop-place
invariant-loop-place l = Stands l.net l.place l.walk
