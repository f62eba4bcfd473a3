use Rattle.std.proofs.Common.{◌+◌, ◌-◌, ◌*◌, ◌≤◌, ltb, ◌&&◌, [], get_or}
use Rattle.rv_gate.specs.Word.{bit_of}
use Rattle.rv_many.specs.Square.{AreEight, HaveBits}
use Rattle.rv_many.proofs.words.parts_of.Given as goal

abbrev pub invariant-loop-block : goal.invariant-loop-block
invariant-loop-block l = record {
  few : l.block ≤ 8;
  numbers : AreEight l.parts;
  bits : HaveBits l.parts (λ i j. ltb j (8 * l.block) && bit_of (get_or l.words (l.from + j) []) (l.line + i));
}

abbrev pub decreases-loop-block : goal.decreases-loop-block
decreases-loop-block l = l.end - (l.from + 8 * l.block)
