use Rattle.std.proofs.Common.{◌≡◌, drop}
use Rattle.rv_gate.specs.Word.{word_of}
use Rattle.rv_pla.specs.Pla.{first_line}
use Rattle.rv_pla.specs.inside.Table.{off_or_on}
use Rattle.rv_pla.proofs.pla.Pla.first_line.Given as goal

abbrev pub invariant-loop-term : goal.invariant-loop-term
invariant-loop-term l =
    first_line (off_or_on l.off l.self.kind) (word_of l.self.inputs l.x) l.output (drop l.term-index l.term-items)
    ≡ first_line (off_or_on l.off l.self.kind) (word_of l.self.inputs l.x) l.output l.self.terms
