use Rattle.std.proofs.Common.{take}
use Rattle.rv_io.specs.Writer.{Adds}
use Rattle.rv_picture.specs.Svg.{breaks}
use Rattle.rv_picture.proofs.svg.put_breaks.Given as goal

abbrev pub invariant-loop-place : goal.invariant-loop-place
invariant-loop-place g l = Adds l.initial.writer (g.O.Sink.view l.initial.sink) (breaks g.G.Drawn.draws l.line 0 (take l.place l.gates)) l.writer (g.O.Sink.view l.sink)
