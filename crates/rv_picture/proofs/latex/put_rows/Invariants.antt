use Rattle.std.proofs.Common.{map}
use Rattle.std.specs.List.{range_with_len}
use Rattle.rv_io.specs.Writer.{Adds}
use Rattle.rv_picture.specs.Cut.{text_of_lines}
use Rattle.rv_picture.specs.Latex.{row_text}
use Rattle.rv_picture.proofs.latex.put_rows.Given as goal

abbrev pub invariant-loop-line : goal.invariant-loop-line
invariant-loop-line g l =
    Adds l.initial.writer (g.O.Sink.view l.initial.sink) (text_of_lines (map (row_text g.G.Drawn.draws l.lines l.gates) (range_with_len 0 l.line))) l.writer (g.O.Sink.view l.sink)
