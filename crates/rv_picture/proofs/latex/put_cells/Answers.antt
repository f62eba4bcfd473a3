use Rattle.std.proofs.Common.{arith, ap, length, ◌≤◌, ◌∷◌}
use Rattle.std.specs.List.{flat_map}
use Rattle.std.proofs.lemmas.List.{take_all}
use Rattle.rv_io.proofs.Adding.{adds_as}
use Rattle.rv_picture.specs.Latex.{cell_on, cell_text}
use Rattle.rv_picture.proofs.latex.put_cells.Goals as goal

pub returns : goal.returns
returns g c =
    let gates = c.args.gates.now in
    let all : length gates ≤ c.loop-gate.gate-index = omega arith in
    adds_as (ap (flat_map (λ gate. 38 ∷ cell_text (cell_on (g.G.Drawn.draws gate) c.args.lines c.args.line))) (take_all c.loop-gate.gate-index gates all)) c.loop-gate.invariant
