use Rattle.std.proofs.Common.{arith, ap, length, ◌≤◌}
use Rattle.std.proofs.lemmas.List.{take_all}
use Rattle.rv_io.proofs.Adding.{adds_then, adds_as}
use Rattle.rv_picture.specs.Svg.{break_at, breaks, middle_of}
use Rattle.rv_picture.proofs.SvgTexts.{breaks_more}
use Rattle.rv_picture.proofs.svg.put_breaks.Goals as goal

pub loop-place-preserved : goal.loop-place-preserved
loop-place-preserved g c =
    let place = c.loop-place.place in
    let line = c.args.line in
    adds_as (breaks_more g.G.Drawn.draws line c.args.gates.now place c.index-gates-place.result c.loop-place-test.true c.index-gates-place.is)
    (adds_then c.loop-place.invariant (adds_as (ap (λ symbol. break_at symbol (middle_of place) (middle_of line)) c.symbol_on.ensures) c.put_break.ensures))

pub returns : goal.returns
returns g c =
    let gates = c.args.gates.now in
    let all : length gates ≤ c.loop-place.place = omega arith in
    adds_as (ap (breaks g.G.Drawn.draws c.args.line 0) (take_all c.loop-place.place gates all)) c.loop-place.invariant
