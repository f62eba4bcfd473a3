use Rattle.std.proofs.Common.{◌≡◌, ℕ, ◌+◌, ◌<◌, [], get_or}
use Rattle.rv_many.specs.Column.{column}
use Rattle.rv_many.proofs.words.set_eight_words.Given as goal

abbrev pub invariant-loop-i : goal.invariant-loop-i
invariant-loop-i l = (j : ℕ) → j < l.i → get_or l.words j [] ≡ column l.rows (l.place + j)
