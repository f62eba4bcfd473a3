use Rattle.std.proofs.Common.{take}
use Rattle.std.specs.List.{flat_map}
use Rattle.rv_io.specs.Writer.{Adds}
use Rattle.rv_draw.specs.Symbols.{glyph}
use Rattle.rv_draw.specs.Drawing.{cell}
use Rattle.rv_draw.proofs.write.put_cells.Given as goal

abbrev pub invariant-loop-gate : goal.invariant-loop-gate
invariant-loop-gate g l = Adds l.initial.writer (g.O.Sink.view l.initial.sink) (flat_map (λ gate. flat_map glyph (cell (g.G.Drawn.draws gate l.line))) (take l.gate-index l.gates)) l.writer (g.O.Sink.view l.sink)
