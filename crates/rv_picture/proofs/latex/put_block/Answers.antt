use Rattle.std.proofs.Common.{ap, sym, ◌∙◌, map, length, ◌∷◌, [], ◌++◌, List, ℕ}
use Rattle.std.specs.Fork.{slice_chunk}
use Rattle.std.specs.List.{range_with_len}
use Rattle.rv_io.proofs.Adding.{adds_then, adds_as}
use Rattle.rv_picture.specs.Cut.{text_of_lines}
use Rattle.rv_picture.specs.Latex.{begin_line, empty_line, end_line, row_text}
use Rattle.rv_picture.proofs.Texts.{lines-append}
use Rattle.rv_picture.proofs.latex.put_block.Goals as goal

pub returns : goal.returns
returns g c =
    let chunk = slice_chunk c.args.gates.now c.args.per_block c.args.block in
    let rows = map (row_text g.G.Drawn.draws c.args.lines.now chunk) (range_with_len 0 (length c.args.lines.now.names)) in
    adds_as (sym (lines-append (empty_line c.args.block) (begin_line ∷ (rows ++ end_line ∷ [])) ∙ ap (λ (t : List ℕ). text_of_lines (empty_line c.args.block) ++ (text_of_lines (begin_line ∷ []) ++ t)) (lines-append rows (end_line ∷ []))))
    (adds_then c.put_gap.ensures
    (adds_then c.put.ensures
    (adds_then (adds_as (ap (λ some. text_of_lines (map (row_text g.G.Drawn.draws c.args.lines.now some) (range_with_len 0 (length c.args.lines.now.names)))) c.gates_of_block-chunk.ensures) c.put_rows.ensures) c.put-2.ensures)))
