use Rattle.std.proofs.Common.{◌≡◌, ◌≤◌, ◌*◌, take}
use Rattle.rv_ladder.specs.Counts.{flip_count, operations}
use Rattle.std.specs.List.{sum_by}
use Rattle.rv_ladder.proofs.measuring.flips_count.Given as goal

abbrev pub invariant-loop-flip : goal.invariant-loop-flip
invariant-loop-flip l = record {
  so_far : l.count ≡ sum_by (flip_count operations l.aux l.lines) (take l.flip-index l.flips);
  few : l.count ≤ 5280 * l.flip-index;
}
