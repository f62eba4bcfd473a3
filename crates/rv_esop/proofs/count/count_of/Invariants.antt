use Rattle.std.proofs.Common.{◌≡◌, ◌+◌, ◌-◌, ◌≤◌, length}
use Rattle.rv_esop.specs.inside.Flips.{flips_from}
use Rattle.rv_esop.proofs.count.count_of.Given as goal

abbrev pub invariant-loop-output : goal.invariant-loop-output
invariant-loop-output l = record {
  so_far : l.count + length (flips_from l.inputs l.cube l.output (l.outputs - l.output))
      ≡ length (flips_from l.inputs l.cube 0 l.outputs);
  few : l.count ≤ l.output;
}
