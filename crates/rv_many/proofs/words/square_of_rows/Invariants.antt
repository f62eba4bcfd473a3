use Rattle.std.proofs.Common.{◌+◌, ◌≤◌, length, drop}
use Rattle.rv_gate.specs.Word.{bit_of}
use Rattle.rv_many.specs.Column.{column}
use Rattle.rv_many.specs.Square.{IsSquare}
use Rattle.rv_many.proofs.words.square_of_rows.Given as goal

abbrev pub invariant-loop-line : goal.invariant-loop-line
invariant-loop-line l = record {
  within : l.line ≤ length l.rows;
  bits : IsSquare l.square (λ i j. bit_of (column (drop l.line l.rows) (l.place + j)) i);
}

abbrev pub decreases-loop-line : goal.decreases-loop-line
decreases-loop-line l = l.line
