use Rattle.std.proofs.Common.{◌≡◌, ◌∙◌, ℕ, ◌+◌, ◌<◌, ◌&&◌, Bool, ap, sym, refl, arith}
use Rattle.std.specs.List.{flat_map, range_with_len}
use Rattle.rv_io.proofs.Adding.{adds_none, adds_then, adds_as}
use Rattle.rv_draw.specs.declared.symbol.Symbol.{Symbol}
use Rattle.rv_picture.specs.Cut.{text_of_lines}
use Rattle.rv_picture.specs.Latex.{is_on}
use Rattle.rv_picture.specs.Svg.{Stroke, mark_lines, mark_on, stroke, stroke_lines}
use Rattle.rv_picture.specs.inside.Within.{symbol_within}
use Rattle.rv_picture.proofs.Texts.{blocks_more}
use Rattle.rv_picture.proofs.inside.Within.{above_is, joined_is, stroke_is}
use Rattle.rv_picture.proofs.svg.put_marks.Goals as goal

pub loop-line-init : goal.loop-line-init
loop-line-init g c = record { symbol = c.symbol_within-symbol.ensures; above = refl; adds = adds_none _ _ }

pub loop-line-preserved : goal.loop-line-preserved
loop-line-preserved g c =
    let before = c.loop-line.invariant in
    let f : ℕ → Symbol = g.G.Drawn.draws c.args.gate in
    let n : ℕ = c.args.lines in
    let line : ℕ = c.loop-line.line in
    let lt : line < n = omega arith in
    let above : Bool = c.loop-line.from_above in
    let here : Symbol = symbol_within f n line in
    let below = c.symbol_within-below.ensures in
    let joined : c.are_joined-is_joined.result ≡ (is_on here && is_on (symbol_within f n (line + 1))) =
    c.are_joined-is_joined.ensures ∙ ap (λ (s : Symbol). is_on s && is_on c.symbol_within-below.result) before.symbol
    ∙ ap (λ (s : Symbol). is_on here && is_on s) below in
    let same : stroke c.loop-line.symbol above c.are_joined-is_joined.result ≡ mark_on f n line =
    ap (λ (s : Symbol). stroke s above c.are_joined-is_joined.result) before.symbol
    ∙ ap (λ (t : Bool). stroke here above t) joined ∙ stroke_is f n line above lt before.above in
    record {
      symbol = below;
      above = joined ∙ joined_is f n line lt ∙ sym (above_is f n line);
      adds = adds_as (blocks_more (mark_lines f n) line)
          (adds_then before.adds (adds_as (ap (λ (mark : Stroke). text_of_lines (stroke_lines mark line)) same) c.put_mark.ensures));
    }

pub returns : goal.returns
returns g c =
    let all : c.loop-line.line ≡ c.args.lines = omega arith in
    adds_as (ap (λ (n : ℕ). text_of_lines (flat_map (mark_lines (g.G.Drawn.draws c.args.gate) c.args.lines) (range_with_len 0 n))) all) c.loop-line.invariant.adds
