use Rattle.std.proofs.Common.{◌+◌, ◌≤◌, [], length, get_or, drop}
use Rattle.rv_gate.specs.Word.{bit_of}
use Rattle.rv_many.specs.Square.{IsSquare}
use Rattle.rv_many.proofs.words.square_of_words.Given as goal

abbrev pub invariant-loop-place : goal.invariant-loop-place
invariant-loop-place l = record {
  within : l.place ≤ length l.words;
  bits : IsSquare l.square (λ i j. bit_of (get_or (drop l.place l.words) i []) (l.line + j));
}

abbrev pub decreases-loop-place : goal.decreases-loop-place
decreases-loop-place l = l.place
