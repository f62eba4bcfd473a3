use Rattle.std.proofs.Common.{take}
use Rattle.std.specs.List.{flat_map}
use Rattle.rv_io.specs.Writer.{Adds}
use Rattle.rv_real.specs.Text.{label_word}
use Rattle.rv_real.specs.inside.LabelRows.{labels_of}
use Rattle.rv_text.proofs.Pieces.{spaced}
use Rattle.rv_real.proofs.write.put_label_row.Given as goal

abbrev pub invariant-loop-line : goal.invariant-loop-line
invariant-loop-line g l = Adds l.initial.writer (g.O.Sink.view l.initial.sink) (flat_map (λ label. spaced (label_word label)) (take l.line (labels_of l.circuit l.ends))) l.writer (g.O.Sink.view l.sink)
