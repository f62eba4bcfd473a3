use Rattle.std.proofs.Common.{◌≡◌}
use Rattle.rv_cube.specs.inside.Due.{due_count}
use Rattle.rv_cube.specs.inside.Reducing.{IsReduction}
use Rattle.rv_cube.proofs.reduction.Reduction.next_merge.Given as goal

abbrev pub invariant-rows : goal.invariant-rows
invariant-rows l = record {
  same : l.self-inside.slots ≡ l.fn.self;
  kept : IsReduction l.self-inside.slots.inputs l.self-inside.slots.cubes l.self-inside.merges l.self-inside.exorlinks;
}

abbrev pub decreases-rows : goal.decreases-rows
decreases-rows l = due_count l.self-inside.merges
