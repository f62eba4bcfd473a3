use Rattle.std.proofs.Common.{◌≡◌, ℕ, map, length, ap, arith}
use Rattle.std.specs.List.{range_with_len}
use Rattle.rv_io.proofs.Adding.{adds_then, adds_as}
use Rattle.rv_text.specs.Spelled.{spelled}
use Rattle.rv_draw.specs.Drawing.{row_words}
use Rattle.rv_draw.proofs.Texts.{rows_more}
use Rattle.rv_draw.proofs.write.put_rows.Goals as goal

pub loop-line-preserved : goal.loop-line-preserved
loop-line-preserved g c = adds_as (rows_more (row_words g.G.Drawn.draws c.args.circuit.now c.args.gates.now) c.loop-line.line) (adds_then c.loop-line.invariant c.put_row.ensures)

pub returns : goal.returns
returns g c =
    let all : c.loop-line.line ≡ length c.args.circuit.now.names = omega arith in
    adds_as (ap (λ (n : ℕ). spelled (map (row_words g.G.Drawn.draws c.args.circuit.now c.args.gates.now) (range_with_len 0 n))) all) c.loop-line.invariant
