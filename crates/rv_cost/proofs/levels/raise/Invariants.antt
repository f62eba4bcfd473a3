use Rattle.std.proofs.Common.{◌≡◌, ℕ, ◌<◌, true, false, length, slice_index, if◌then◌else◌}
use Rattle.rv_gate.specs.Word.{has}
use Rattle.rv_cost.proofs.levels.raise.Given as goal

abbrev pub invariant-loop-left : goal.invariant-loop-left
invariant-loop-left l = record {
  sized : length l.tops ≡ 64;
  among : (k : ℕ) → k < 64 → has l.left k ≡ true → has l.lines k ≡ true;
  done : (k : ℕ) → k < 64 → has l.left k ≡ false → slice_index l.tops k ≡ (if has l.lines k then l.level else slice_index l.initial.tops k);
}

abbrev pub decreases-loop-left : goal.decreases-loop-left
decreases-loop-left l = l.left
