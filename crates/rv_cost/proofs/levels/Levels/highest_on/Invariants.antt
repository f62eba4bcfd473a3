use Rattle.std.proofs.Common.{◌≡◌, ℕ, ◌<◌, ◌≤◌, true, false, slice_index}
use Rattle.rv_gate.specs.Word.{has}
use Rattle.rv_cost.proofs.levels.Levels.highest_on.Given as goal

abbrev pub invariant-loop-left : goal.invariant-loop-left
invariant-loop-left l = record {
  among : (k : ℕ) → k < 64 → has l.left k ≡ true → has l.lines k ≡ true;
  upper : (k : ℕ) → k < 64 → has l.lines k ≡ true → has l.left k ≡ false → slice_index l.self.tops k ≤ l.highest;
  least : (limit : ℕ) → ((k : ℕ) → k < 64 → has l.lines k ≡ true → slice_index l.self.tops k ≤ limit) → l.highest ≤ limit;
}

abbrev pub decreases-loop-left : goal.decreases-loop-left
decreases-loop-left l = l.left
