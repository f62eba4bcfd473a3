use Rattle.std.proofs.Common.{◌≤◌, length, arith, ap}
use Rattle.std.specs.List.{flat_map}
use Rattle.std.proofs.lemmas.List.{take_all}
use Rattle.std.proofs.lemmas.Option.{slice_get-get_or}
use Rattle.rv_io.proofs.Adding.{adds_as}
use Rattle.rv_io.proofs.Pieces.{adds_more}
use Rattle.rv_curve.specs.Report.{row_text}
use Rattle.rv_curve.proofs.report.put_rows.Goals as goal

pub loop-row-preserved : goal.loop-row-preserved
loop-row-preserved g c =
    let rows = c.args.rows.now in
    let i = c.loop-row.row-index in
    adds_more (row_text c.args.search c.args.goal c.args.seed) rows i _ (slice_get-get_or rows i _ c.loop-row-test.true) c.loop-row.invariant c.put_row.ensures

pub returns : goal.returns
returns g c =
    let rows = c.args.rows.now in
    let all : length rows ≤ c.loop-row.row-index = omega (arith, c.loop-row-test.false) in
    adds_as (ap (flat_map (row_text c.args.search c.args.goal c.args.seed)) (take_all c.loop-row.row-index rows all)) c.loop-row.invariant
