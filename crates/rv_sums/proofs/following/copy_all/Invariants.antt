use Rattle.std.proofs.Common.{take}
use Rattle.rv_sums.specs.inside.State.{AreCopies}
use Rattle.rv_sums.proofs.following.copy_all.Given as goal

abbrev pub invariant-loop-sum : goal.invariant-loop-sum
invariant-loop-sum l = AreCopies (take l.sum-index l.sums) l.made.items
