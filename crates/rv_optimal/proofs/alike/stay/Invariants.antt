use Rattle.std.proofs.Common.{ℕ, ◌<◌, get_or, Contains}
use Rattle.rv_optimal.specs.inside.Alike.{swapped}
use Rattle.rv_optimal.proofs.alike.stay.Given as goal

abbrev pub invariant-loop-step : goal.invariant-loop-step
invariant-loop-step l = (k : ℕ) → k < l.step-index → Contains l.moves (swapped l.line (get_or l.moves k 0))
