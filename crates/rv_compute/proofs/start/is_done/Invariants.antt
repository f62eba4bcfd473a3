use Rattle.std.proofs.Common.{◌≡◌, ℕ, ◌<◌}
use Rattle.rv_compute.specs.inside.Held.{held_at, due}
use Rattle.rv_compute.proofs.start.is_done.Given as goal

abbrev pub invariant-loop-line : goal.invariant-loop-line
invariant-loop-line l = (line : ℕ) → line < l.line → held_at l.held line ≡ due l.logic line
