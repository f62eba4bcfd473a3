use Rattle.std.proofs.Common.{◌+◌, ◌-◌, ◌*◌, ◌≤◌, ltb, ◌&&◌, length}
use Rattle.rv_gate.specs.Word.{bit_of}
use Rattle.rv_many.specs.Column.{column}
use Rattle.rv_many.specs.Square.{AreEight, HaveBits}
use Rattle.rv_many.proofs.words.sets_of.Given as goal

abbrev pub invariant-loop-block : goal.invariant-loop-block
invariant-loop-block l = record {
  block : l.block ≤ 8;
  numbers : AreEight l.sets;
  bits : HaveBits l.sets (λ i j. ltb j (8 * l.block) && bit_of (column l.rows (l.place + i)) j);
}

abbrev pub decreases-loop-block : goal.decreases-loop-block
decreases-loop-block l = length l.rows - 8 * l.block
