use Rattle.std.proofs.Common.{◌≡◌, ◌-◌, ◌*◌, ◌/◌, length, map, take}
use Rattle.rv_gate.specs.Word.{word_with}
use Rattle.rv_text.specs.Bytes.{bit_byte}
use Rattle.rv_simulate.proofs.answers.set_digits.Given as goal

-- the digits of the lines before this one stand in the text
abbrev pub invariant-loop-line : goal.invariant-loop-line
invariant-loop-line l = record {
  room : length l.text ≡ length l.initial.text;
  eights : l.line / 8 * 8 ≡ l.line;
  digits : take l.line l.text ≡ map bit_byte (word_with l.line l.ones);
}

abbrev pub decreases-loop-line : goal.decreases-loop-line
decreases-loop-line l = length l.word - l.line
