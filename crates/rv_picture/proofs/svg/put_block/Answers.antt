use Rattle.std.proofs.Common.{ap, ◌∙◌, ℕ, [], ◌*◌, ◌+◌}
use Rattle.std.specs.Fork.{slice_chunk}
use Rattle.std.specs.List.{flat_map, range_with_len}
use Rattle.std.specs.Prelude.{length}
use Rattle.rv_io.proofs.Adding.{adds_then, adds_as}
use Rattle.rv_picture.specs.Cut.{text_of_lines}
use Rattle.rv_picture.specs.Svg.{all_gate_lines, close, line_lines, placed}
use Rattle.rv_picture.proofs.Texts.{line_text}
use Rattle.rv_picture.proofs.SvgTexts.{four_parts}
use Rattle.rv_picture.proofs.svg.put_block.Goals as goal

pub returns : goal.returns
returns g c =
    let lines = c.args.lines.now in
    let chunk = slice_chunk c.args.gates.now c.args.per_block c.args.block in
    let y : ℕ = 30 * (length lines.names + 1) * c.args.block in
    adds_as (four_parts (placed 0 y []) (flat_map (line_lines g.G.Drawn.draws lines chunk) (range_with_len 0 (length lines.names))) (all_gate_lines g.G.Drawn.draws (g.G.Titled.title lines.names) (length lines.names) 0 chunk) close)
    (adds_then (adds_as (line_text (placed 0 y []))
    (adds_then (adds_as (ap (λ (at : ℕ). placed 0 at []) (c.height-y.ensures ∙ ap (λ (n : ℕ). 30 * (n + 1) * c.args.block) c.line_count.ensures.value)) c.put_place.ensures) c.put.ensures))
    (adds_then (adds_as (ap (λ some. text_of_lines (flat_map (line_lines g.G.Drawn.draws lines some) (range_with_len 0 (length lines.names)))) c.gates_of_block-chunk.ensures) c.put_lines.ensures)
    (adds_then (adds_as (ap (λ some. text_of_lines (all_gate_lines g.G.Drawn.draws (g.G.Titled.title c.names.result.now) (length c.names.result.now) 0 some)) c.gates_of_block-chunk.ensures ∙ ap (λ names. text_of_lines (all_gate_lines g.G.Drawn.draws (g.G.Titled.title names) (length names) 0 chunk)) c.names.ensures) c.put_gates.ensures)
    c.put-2.ensures)))
