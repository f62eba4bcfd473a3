use Rattle.std.proofs.Common.{◌≡◌, length}
use Rattle.rv_resynth.proofs.dropped.run_on.Given as goal

abbrev pub invariant-loop-gate : goal.invariant-loop-gate
invariant-loop-gate l = length l.rows ≡ 64
