use Rattle.std.proofs.Common.{◌≤◌, map, reverse, take}
use Rattle.rv_cost.specs.NetCost.{op_task}
use Rattle.rv_cost.specs.inside.Tops.{IsLevelled}
use Rattle.rv_cost.proofs.network.op_depth.Given as goal

abbrev pub invariant-loop-op : goal.invariant-loop-op
invariant-loop-op l = record {
  levelled : IsLevelled l.levels (reverse (map op_task (take l.op-index l.ops)));
  few : l.levels.depth ≤ l.op-index;
}
