use Rattle.std.proofs.Common.{ℕ, ◌+◌, ◌<◌, get_or}
use Rattle.rv_many.proofs.Columns.{blank}
use Rattle.rv_many.proofs.Transposed.{IsRowOf}
use Rattle.rv_many.proofs.words.set_eight_rows.Given as goal

abbrev pub invariant-loop-i : goal.invariant-loop-i
invariant-loop-i l = (i : ℕ) → i < l.i → IsRowOf l.words (l.line + i) (get_or l.rows i blank)
