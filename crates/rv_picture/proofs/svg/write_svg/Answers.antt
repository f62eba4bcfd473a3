use Rattle.std.proofs.Common.{[], ◌∷◌, ap, ◌∙◌, ℕ}
use Rattle.std.specs.Prelude.{codes, length}
use Rattle.std.specs.List.{flat_map, range_with_len}
use Rattle.rv_io.proofs.Adding.{adds_then, adds_as}
use Rattle.rv_draw.specs.Drawing.{block_count}
use Rattle.rv_picture.specs.Cut.{text_of_lines}
use Rattle.rv_picture.specs.Svg.{block_lines, column_count, head, svg_with}
use Rattle.rv_picture.proofs.SvgTexts.{lines_between, svg_text}
use Rattle.rv_picture.proofs.svg.write_svg.Goals as goal

pub returns : goal.returns
returns g c =
    let lines = c.args.lines.now in
    let gates = c.args.gates.now in
    let per = c.args.per_block in
    let base = g.O.Sink.view c.args.sink.now in
    let text = svg_with g.G.Drawn.draws g.G.Titled.title per lines gates in
    let blocks : ℕ = block_count per (length gates) in
    let columns : ℕ = column_count per (length gates) in
    let all = adds_as (lines_between (head lines columns blocks) (flat_map (block_lines g.G.Drawn.draws g.G.Titled.title per lines gates) (range_with_len 0 blocks)) (codes "</svg>") ∙ svg_text g.G.Drawn.draws g.G.Titled.title per lines gates)
    (adds_then (adds_as (ap (λ (m : ℕ). text_of_lines (head lines m c.block_count-blocks.result ∷ [])) c.min-columns.ensures ∙ ap (λ (m : ℕ). text_of_lines (head lines columns m ∷ [])) c.block_count-blocks.ensures) c.put_head.ensures)
    (adds_then (adds_as (ap (λ (m : ℕ). text_of_lines (flat_map (block_lines g.G.Drawn.draws g.G.Titled.title per lines gates) (range_with_len 0 m))) c.block_count-blocks.ensures) c.put_blocks.ensures) c.put.ensures)) in
    c.finish.ensures base text (all.written base [] (c.new-writer.ensures.begins base))
