use Rattle.std.proofs.Common.{ap, ℕ, List, []}
use Rattle.std.specs.List.{flat_map, range_with_len}
use Rattle.std.specs.Prelude.{length}
use Rattle.rv_io.proofs.Adding.{adds_then, adds_as}
use Rattle.rv_picture.specs.Cut.{text_of_lines}
use Rattle.rv_picture.specs.Svg.{close, mark_lines, middle_of, placed, titled}
use Rattle.rv_picture.proofs.SvgTexts.{lines_between, titled_line}
use Rattle.rv_picture.proofs.svg.put_gate.Goals as goal

pub returns : goal.returns
returns g c =
    let f = g.G.Drawn.draws c.args.gate in
    let names = c.args.names.now in
    let title : List ℕ = g.G.Titled.title names c.args.gate in
    let x : ℕ = middle_of c.args.place in
    adds_as (lines_between (placed x 0 (titled title)) (flat_map (mark_lines f (length names)) (range_with_len 0 (length names))) close)
    (adds_then (adds_as (titled_line x title) (adds_then (adds_as (ap (λ (at : ℕ). placed at 0 []) c.middle_of.ensures) c.put_place.ensures) (adds_then c.put.ensures (adds_then c.put_title.ensures c.put-2.ensures))))
    (adds_then (adds_as (ap (λ (n : ℕ). text_of_lines (flat_map (mark_lines f n) (range_with_len 0 n))) c.len.ensures.len) c.put_marks.ensures) c.put-3.ensures))
