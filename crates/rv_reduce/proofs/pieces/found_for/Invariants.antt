use Rattle.std.proofs.Common.{◌-◌, ◌≤◌, length, take}
use Rattle.rv_reduce.specs.StandsFor.{StandsFor}
use Rattle.rv_reduce.proofs.pieces.found_for.Given as goal

abbrev pub invariant-loop-from : goal.invariant-loop-from
invariant-loop-from l = record {
  within : l.from ≤ length l.ops;
  stands : StandsFor l.lines (take l.from l.ops) l.made.items;
}

abbrev pub decreases-loop-from : goal.decreases-loop-from
decreases-loop-from l = length l.ops - l.from
