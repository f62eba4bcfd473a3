use Rattle.rv_compute.specs.inside.Held.{Stands}
use Rattle.rv_compute.proofs.run.run_steps.Given as goal

abbrev pub invariant-loop-step : goal.invariant-loop-step
invariant-loop-step l = Stands l.logic l.extra l.work.held.items l.work.gates.items
