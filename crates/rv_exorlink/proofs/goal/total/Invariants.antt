use Rattle.std.proofs.Common.{◌≡◌, ◌≤◌, ◌*◌, ◌^◌, take}
use Rattle.std.specs.List.{sum_by}
use Rattle.rv_exorlink.specs.Weight.{weight}
use Rattle.rv_exorlink.proofs.goal.total.Given as goal

abbrev pub invariant-loop-cube : goal.invariant-loop-cube
invariant-loop-cube l = record {
  value : l.sum ≡ sum_by (weight l.goal) (take l.cube-index l.cubes);
  bound : l.sum ≤ l.cube-index * 2 ^ 37;
}
