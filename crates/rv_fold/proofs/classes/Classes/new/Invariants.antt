use Rattle.std.proofs.Common.{◌≡◌, ℕ, length, get_or}
use Rattle.rv_fold.proofs.classes.Classes.new.Given as goal

abbrev pub invariant-loop-line : goal.invariant-loop-line
invariant-loop-line l = ((line : ℕ) → get_or l.sinces.items line 0 ≡ 0) × (length l.sinces.items ≡ l._line)
