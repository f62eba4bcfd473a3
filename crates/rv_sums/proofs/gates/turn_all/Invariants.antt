use Rattle.std.proofs.Common.{take}
use Rattle.rv_sums.specs.inside.State.{AreTurned}
use Rattle.rv_sums.proofs.gates.turn_all.Given as goal

abbrev pub invariant-loop-sum : goal.invariant-loop-sum
invariant-loop-sum l = AreTurned l.line l.with (take l.sum-index l.sums) l.made.items
