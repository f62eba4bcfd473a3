use Rattle.std.proofs.Common.{take, ◌∷◌}
use Rattle.std.specs.List.{flat_map}
use Rattle.rv_io.specs.Writer.{Adds}
use Rattle.rv_picture.specs.Latex.{cell_on, cell_text}
use Rattle.rv_picture.proofs.latex.put_cells.Given as goal

abbrev pub invariant-loop-gate : goal.invariant-loop-gate
invariant-loop-gate g l =
    Adds l.initial.writer (g.O.Sink.view l.initial.sink) (flat_map (λ gate. 38 ∷ cell_text (cell_on (g.G.Drawn.draws gate) l.lines l.line)) (take l.gate-index l.gates)) l.writer (g.O.Sink.view l.sink)
