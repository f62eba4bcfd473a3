use Rattle.std.proofs.Common.{◌≡◌, map}
use Rattle.std.specs.List.{range_with_len}
use Rattle.rv_dbs.specs.Walk.{next}
use Rattle.rv_dbs.proofs.least.steps.Given as goal

abbrev pub invariant-loop-x : goal.invariant-loop-x
invariant-loop-x l = l.steps.items ≡ map (next l.k l.perm.images) (range_with_len 0 l.x)
