use Rattle.std.proofs.Common.{All, take}
use Rattle.rv_gate.specs.Commuting.{Commutes}
use Rattle.rv_sums.proofs.left.all_commute.Given as goal

abbrev pub invariant-loop-other : goal.invariant-loop-other
invariant-loop-other l = All (λ other. Commutes other l.gate) (take l.other-index l.passed)
