use Rattle.std.proofs.Common.{◌≡◌, ℕ, ◌<◌, ◌≤◌, get_or, length, true, false}
use Rattle.rv_gate.specs.Word.{has}
use Rattle.rv_fold.proofs.classes.Classes.is_kept.Given as goal

abbrev pub invariant-loop-left : goal.invariant-loop-left
invariant-loop-left l = record {
  among : (line : ℕ) → line < 64 → has l.left line ≡ true → has l.lines line ≡ true;
  kept : (line : ℕ) → line < length l.self.sinces.items → has l.lines line ≡ true → has l.left line ≡ false → get_or l.self.sinces.items line 0 ≤ l.from;
}

abbrev pub decreases-loop-left : goal.decreases-loop-left
decreases-loop-left l = l.left
