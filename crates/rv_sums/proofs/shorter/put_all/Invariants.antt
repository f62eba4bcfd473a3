use Rattle.std.proofs.Common.{take}
use Rattle.rv_sums.specs.inside.State.{ArePut}
use Rattle.rv_sums.proofs.shorter.put_all.Given as goal

abbrev pub invariant-loop-sum : goal.invariant-loop-sum
invariant-loop-sum l = ArePut l.path l.with (take l.sum-index l.sums) l.made.items
