use Rattle.std.proofs.Common.{map}
use Rattle.std.specs.List.{range_with_len}
use Rattle.rv_io.specs.Writer.{Adds}
use Rattle.rv_text.specs.Spelled.{spelled}
use Rattle.rv_draw.specs.Drawing.{row_words}
use Rattle.rv_draw.proofs.write.put_rows.Given as goal

abbrev pub invariant-loop-line : goal.invariant-loop-line
invariant-loop-line g l = Adds l.initial.writer (g.O.Sink.view l.initial.sink) (spelled (map (row_words g.G.Drawn.draws l.circuit l.gates) (range_with_len 0 l.line))) l.writer (g.O.Sink.view l.sink)
