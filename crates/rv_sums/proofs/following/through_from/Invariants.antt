use Rattle.std.proofs.Common.{drop}
use Rattle.rv_sums.specs.inside.State.{ReachedFrom}
use Rattle.rv_sums.proofs.following.through_from.Given as goal

abbrev pub invariant-places : goal.invariant-places
invariant-places l = ReachedFrom l.fn.word l.ops (drop l.place l.ops) l.state
