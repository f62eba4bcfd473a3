use Rattle.std.proofs.Common.{◌≡◌, ◌<◌, ℕ, false}
use Rattle.rv_cube.specs.ReductionFor.{is_idle}
use Rattle.rv_cube.proofs.idle.least_idle.Given as goal

abbrev pub invariant-loop-output : goal.invariant-loop-output
invariant-loop-output l = (k : ℕ) → k < l.output → is_idle l.pla l.fn.cube k ≡ false
