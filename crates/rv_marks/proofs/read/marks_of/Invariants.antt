use Rattle.rv_marks.proofs.inside.Row.{MakeOf}
use Rattle.rv_marks.proofs.read.marks_of.Given as goal

abbrev pub invariant-loop-byte : goal.invariant-loop-byte
invariant-loop-byte g l = MakeOf g.M.RowMark.mark_of l.row l.marks.items l.byte-index
