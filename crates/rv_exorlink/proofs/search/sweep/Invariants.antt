use Rattle.std.proofs.Common.{◌≤◌}
use Rattle.rv_exorlink.specs.Lists.{IsSameBut}
use Rattle.rv_exorlink.proofs.search.sweep.Given as goal

abbrev pub invariant-loop-i : goal.invariant-loop-i
invariant-loop-i l = record { same : IsSameBut l.inputs l.free l.fn.cubes.items l.cubes.items; ordered : l.start ≤ l.i }
