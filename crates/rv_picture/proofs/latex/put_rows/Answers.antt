use Rattle.std.proofs.Common.{◌≡◌, ℕ, map, length, ap, arith}
use Rattle.std.specs.List.{range_with_len}
use Rattle.rv_io.proofs.Adding.{adds_then, adds_as}
use Rattle.rv_picture.specs.Cut.{text_of_lines}
use Rattle.rv_picture.specs.Latex.{row_text}
use Rattle.rv_picture.proofs.Texts.{lines_more}
use Rattle.rv_picture.proofs.latex.put_rows.Goals as goal

pub loop-line-preserved : goal.loop-line-preserved
loop-line-preserved g c =
    adds_as (lines_more (row_text g.G.Drawn.draws c.args.lines.now c.args.gates.now) c.loop-line.line) (adds_then c.loop-line.invariant c.put_row.ensures)

pub returns : goal.returns
returns g c =
    let all : c.loop-line.line ≡ length c.args.lines.now.names = omega arith in
    adds_as (ap (λ (n : ℕ). text_of_lines (map (row_text g.G.Drawn.draws c.args.lines.now c.args.gates.now) (range_with_len 0 n))) all) c.loop-line.invariant
