use Rattle.std.proofs.Common.{◌≡◌, ◌*◌, ◌≤◌, length, take}
use Rattle.rv_route.specs.inside.Standing.{swaps_by}
use Rattle.rv_route.proofs.moves.swap_count.Given as goal

abbrev pub invariant-loop-a : goal.invariant-loop-a
invariant-loop-a l = record {
  so_far : l.count ≡ length (swaps_by (take l.a-index l.moves));
  few : l.count ≤ 64 * l.a-index;
}
