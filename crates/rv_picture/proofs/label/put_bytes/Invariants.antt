use Rattle.std.proofs.Common.{take}
use Rattle.std.specs.List.{flat_map}
use Rattle.rv_io.specs.Writer.{Adds}
use Rattle.rv_picture.specs.Labels.{escaped}
use Rattle.rv_picture.specs.Markup.{escapes}
use Rattle.rv_picture.proofs.label.put_bytes.Given as goal

abbrev pub invariant-loop-byte : goal.invariant-loop-byte
invariant-loop-byte g l = Adds l.initial.writer (g.O.Sink.view l.initial.sink) (flat_map (escaped (escapes l.markup)) (take l.byte-index l.bytes)) l.writer (g.O.Sink.view l.sink)
