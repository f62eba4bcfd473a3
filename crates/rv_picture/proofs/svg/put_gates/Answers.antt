use Rattle.std.proofs.Common.{arith, ap, length, ◌≤◌}
use Rattle.std.proofs.lemmas.List.{take_all}
use Rattle.rv_io.proofs.Adding.{adds_then, adds_as}
use Rattle.rv_picture.specs.Cut.{text_of_lines}
use Rattle.rv_picture.specs.Svg.{all_gate_lines}
use Rattle.rv_picture.proofs.SvgTexts.{gates_more}
use Rattle.rv_picture.proofs.svg.put_gates.Goals as goal

pub loop-place-preserved : goal.loop-place-preserved
loop-place-preserved g c =
    adds_as (gates_more g.G.Drawn.draws (g.G.Titled.title c.args.names.now) (length c.args.names.now) c.args.gates.now c.loop-place.place c.index-gates-place.result c.loop-place-test.true c.index-gates-place.is)
    (adds_then c.loop-place.invariant c.put_gate.ensures)

pub returns : goal.returns
returns g c =
    let gates = c.args.gates.now in
    let all : length gates ≤ c.loop-place.place = omega arith in
    adds_as (ap (λ some. text_of_lines (all_gate_lines g.G.Drawn.draws (g.G.Titled.title c.args.names.now) (length c.args.names.now) 0 some)) (take_all c.loop-place.place gates all)) c.loop-place.invariant
