use Rattle.std.proofs.Common.{◌≡◌, ℕ, ◌+◌, ◌<◌, length, get_or, cond, false, true}
use Rattle.rv_gate.specs.Word.{has}
use Rattle.rv_fold.proofs.classes.Classes.restart.Given as goal

abbrev pub invariant-loop-left : goal.invariant-loop-left
invariant-loop-left l = record {
  count : length l.self.sinces.items ≡ length l.initial.self.sinces.items;
  firsts : l.self.firsts ≡ l.initial.self.firsts;
  among : (line : ℕ) → line < 64 → has l.left line ≡ true → has l.lines line ≡ true;
  done : (line : ℕ) → line < length l.initial.self.sinces.items → has l.left line ≡ false → get_or l.self.sinces.items line 0 ≡ cond (has l.lines line) (l.place + 1) (get_or l.initial.self.sinces.items line 0);
}

abbrev pub decreases-loop-left : goal.decreases-loop-left
decreases-loop-left l = l.left
