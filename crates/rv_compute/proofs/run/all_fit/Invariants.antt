use Rattle.rv_compute.proofs.inside.Computed.{FitBelow}
use Rattle.rv_compute.proofs.run.all_fit.Given as goal

abbrev pub invariant-loop-gate : goal.invariant-loop-gate
invariant-loop-gate l = FitBelow l.lines l.gates l.gate-index
