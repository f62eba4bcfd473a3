use Rattle.std.proofs.Common.{ap, sym}
use Rattle.std.specs.Fork.{slice_chunk}
use Rattle.rv_io.proofs.Adding.{adds_then, adds_as}
use Rattle.rv_text.specs.Spelled.{spelled}
use Rattle.rv_text.proofs.Pieces.{spelled-append}
use Rattle.rv_draw.specs.Drawing.{gap, sheet_rows}
use Rattle.rv_draw.proofs.write.put_block.Goals as goal

pub returns : goal.returns
returns g c =
    let circuit = c.args.circuit.now in
    let chunk = slice_chunk c.args.gates.now c.args.per_block c.args.block in
    adds_as (sym (spelled-append (gap c.args.block) (sheet_rows g.G.Drawn.draws circuit chunk)))
    (adds_then c.put_gap.ensures
    (adds_as (ap (λ some. spelled (sheet_rows g.G.Drawn.draws circuit some)) c.gates_of_block-chunk.ensures) c.put_rows.ensures))
