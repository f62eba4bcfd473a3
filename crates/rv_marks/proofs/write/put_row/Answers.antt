use Rattle.std.proofs.Common.{[], ◌∷◌, ◌++◌, map, take, ap, ◌∙◌}
use Rattle.rv_io.proofs.Adding.{adds_then, adds_as}
use Rattle.rv_marks.proofs.inside.Row.{map-more, row_of-map}
use Rattle.rv_marks.proofs.write.put_row.Goals as goal

pub loop-mark-preserved : goal.loop-mark-preserved
loop-mark-preserved g c =
    adds_as (ap (λ byte. map g.M.RowMark.byte_of (take c.loop-mark.mark-index c.args.marks.now) ++ byte ∷ []) c.byte.ensures
    ∙ map-more g.M.RowMark.byte_of c.args.marks.now c.loop-mark.mark-index c.mark-item.result c.loop-mark-test.true c.mark-item.is)
    (adds_then c.loop-mark.invariant c.put.ensures)

pub returns-clause-back : goal.returns-clause-back
returns-clause-back g c = row_of-map g.M.RowMark.mark_of g.M.RowMark.byte_of g.met.M.RowMark.reads_back c.args.marks.now
