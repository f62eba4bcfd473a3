use Rattle.std.proofs.Common.{◌≡◌, ◌≤◌, take}
use Rattle.rv_gate.specs.Marks.{input_count, with_constants}
use Rattle.rv_gate.specs.Word.{word_of}
use Rattle.rv_many.proofs.inside.Numbers.{NumberTo}
use Rattle.rv_simulate.proofs.word_line.among_constants.Given as goal

-- the lines before this one have their bits and constants
abbrev pub invariant-loop-line : goal.invariant-loop-line
invariant-loop-line l = let marks = l.circuit.constants in record {
  number : NumberTo (with_constants marks (word_of l.count l.bits)) l.line l.number;
  used : l.used ≡ input_count (take l.line marks);
  within : l.used ≤ l.count;
}
