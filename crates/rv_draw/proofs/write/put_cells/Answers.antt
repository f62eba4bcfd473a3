use Rattle.std.proofs.Common.{arith, ap, ◌∙◌, length, ◌≤◌}
use Rattle.std.specs.List.{flat_map}
use Rattle.std.proofs.lemmas.List.{take_all}
use Rattle.rv_io.proofs.Adding.{adds_as}
use Rattle.rv_draw.specs.Symbols.{glyph}
use Rattle.rv_draw.specs.Drawing.{cell}
use Rattle.rv_draw.proofs.Texts.{flat_map-flat_map}
use Rattle.rv_draw.proofs.write.put_cells.Goals as goal

pub returns : goal.returns
returns g c =
    let gates = c.args.gates.now in
    let all : length gates ≤ c.loop-gate.gate-index = omega arith in
    adds_as (ap (flat_map (λ gate. flat_map glyph (cell (g.G.Drawn.draws gate c.args.line)))) (take_all c.loop-gate.gate-index gates all)
    ∙ flat_map-flat_map (λ gate. cell (g.G.Drawn.draws gate c.args.line)) gates)
    c.loop-gate.invariant
