use Rattle.std.proofs.Common.{◌≡◌, length}
use Rattle.rv_exorlink.proofs.table.+cost.Given as goal

abbrev pub decreases-cost : goal.decreases-cost
decreases-cost l = length l.values.now

abbrev pub invariant-loop-i : goal.invariant-loop-i
invariant-loop-i l = length l.sums.items ≡ l.i
