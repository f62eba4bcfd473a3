use Rattle.std.proofs.Common.{length, take}
use Rattle.rv_io.specs.Writer.{Adds}
use Rattle.rv_picture.specs.Cut.{text_of_lines}
use Rattle.rv_picture.specs.Svg.{all_gate_lines}
use Rattle.rv_picture.proofs.svg.put_gates.Given as goal

abbrev pub invariant-loop-place : goal.invariant-loop-place
invariant-loop-place g l =
    Adds l.initial.writer (g.O.Sink.view l.initial.sink) (text_of_lines (all_gate_lines g.G.Drawn.draws (g.G.Titled.title l.names) (length l.names) 0 (take l.place l.gates))) l.writer (g.O.Sink.view l.sink)
