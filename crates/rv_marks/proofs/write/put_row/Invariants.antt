use Rattle.std.proofs.Common.{map, take}
use Rattle.rv_io.specs.Writer.{Adds}
use Rattle.rv_marks.proofs.write.put_row.Given as goal

abbrev pub invariant-loop-mark : goal.invariant-loop-mark
invariant-loop-mark g l = Adds l.initial.writer (g.O.Sink.view l.initial.sink) (map g.M.RowMark.byte_of (take l.mark-index l.marks)) l.writer (g.O.Sink.view l.sink)
