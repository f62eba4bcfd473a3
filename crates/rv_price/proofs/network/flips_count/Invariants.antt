use Rattle.std.proofs.Common.{◌≡◌, ◌≤◌, ◌*◌, take}
use Rattle.std.specs.List.{sum_by}
use Rattle.rv_price.specs.Price.{flip_count}
use Rattle.rv_price.proofs.network.flips_count.Given as goal

abbrev pub invariant-loop-flip : goal.invariant-loop-flip
invariant-loop-flip l = record {
  so_far : l.count ≡ sum_by (flip_count l.goal) (take l.flip-index l.flips);
  few : l.count ≤ 512 * l.flip-index;
}
