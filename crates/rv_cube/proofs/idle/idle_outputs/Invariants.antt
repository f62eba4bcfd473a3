use Rattle.std.proofs.Common.{◌^◌, ◌≤◌, ◌-◌}
use Rattle.rv_cube.proofs.inside.IdleSets.{Idles}
use Rattle.rv_cube.proofs.idle.idle_outputs.Given as goal

abbrev pub invariant-loop-number : goal.invariant-loop-number
invariant-loop-number l = record {
  idles : Idles l.pla l.cube l.number l.idle;
  within : l.number ≤ 2 ^ l.pla.inputs;
}

abbrev pub decreases-loop-number : goal.decreases-loop-number
decreases-loop-number l = 2 ^ l.pla.inputs - l.number
