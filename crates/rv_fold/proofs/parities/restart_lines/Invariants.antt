use Rattle.std.proofs.Common.{◌≡◌, ℕ, ◌<◌, length, cond, false, true}
use Rattle.rv_gate.specs.Word.{has}
use Rattle.rv_fold.specs.Parities.{alone}
use Rattle.rv_fold.specs.inside.Shown.{parities_of}
use Rattle.rv_fold.proofs.parities.restart_lines.Given as goal

abbrev pub invariant-loop-left : goal.invariant-loop-left
invariant-loop-left l = record {
  count : length l.parities.items ≡ length l.initial.parities.items;
  among : (line : ℕ) → line < 64 → has l.left line ≡ true → has l.set line ≡ true;
  done : (line : ℕ) → line < 64 → has l.left line ≡ false → parities_of l.parities.items line ≡ cond (has l.set line) (alone line) (parities_of l.initial.parities.items line);
}

abbrev pub decreases-loop-left : goal.decreases-loop-left
decreases-loop-left l = l.left
