use Rattle.std.proofs.Common.{drop}
use Rattle.rv_sums.specs.inside.State.{Reached, left_of}
use Rattle.rv_sums.proofs.following.through.Given as goal

abbrev pub invariant-places : goal.invariant-places
invariant-places l = Reached l.marks l.state.facts.sums.items l.lines l.ops (drop l.place l.ops) l.flips (left_of l.flips l.state.left) l.state.sum
