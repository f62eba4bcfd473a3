use Rattle.std.proofs.Common.{take}
use Rattle.rv_sums.specs.inside.State.{EndsLack}
use Rattle.rv_sums.proofs.free.all_lack.Given as goal

abbrev pub invariant-loop-sum : goal.invariant-loop-sum
invariant-loop-sum l = EndsLack l.path (take l.sum-index l.sums)
