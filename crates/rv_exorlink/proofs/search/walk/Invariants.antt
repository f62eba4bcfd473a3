use Rattle.std.proofs.Common.{◌≡◌}
use Rattle.std.specs.List.{sum_by}
use Rattle.rv_exorlink.specs.Lists.{IsSameBut}
use Rattle.rv_exorlink.specs.Weight.{weight, IsNoWorse}
use Rattle.rv_exorlink.proofs.search.walk.Given as goal

abbrev pub invariant-loop-round : goal.invariant-loop-round
invariant-loop-round l = record {
  now_same : IsSameBut l.inputs l.free l.fn.cubes l.now.items;
  best_same : IsSameBut l.inputs l.free l.fn.cubes l.best.items;
  better : IsNoWorse l.goal l.fn.cubes l.best.items;
  weight : l.best_weight ≡ sum_by (weight l.goal) l.best.items;
}
