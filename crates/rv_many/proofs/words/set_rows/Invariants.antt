use Rattle.std.proofs.Common.{◌≡◌, ℕ, ◌-◌, ◌<◌, [], length, get_or}
use Rattle.rv_gate.specs.Word.{bit_of}
use Rattle.rv_many.specs.Column.{column}
use Rattle.rv_many.proofs.words.set_rows.Given as goal

abbrev pub invariant-loop-line : goal.invariant-loop-line
invariant-loop-line l = record {
  lines : length l.rows ≡ length l.initial.rows;
  bits : (i j : ℕ) → i < l.line → i < length l.rows → j < length l.words → bit_of (column l.rows j) i ≡ bit_of (get_or l.words j []) i;
}

abbrev pub decreases-loop-line : goal.decreases-loop-line
decreases-loop-line l = length l.initial.rows - l.line
