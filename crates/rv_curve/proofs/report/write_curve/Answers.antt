use Rattle.std.proofs.Common.{ap}
use Rattle.std.specs.List.{flat_map}
use Rattle.rv_io.proofs.Adding.{adds_as, adds_then}
use Rattle.rv_io.proofs.Written.{sends_added}
use Rattle.rv_curve.specs.Report.{curve_text, row_text}
use Rattle.rv_curve.proofs.report.write_curve.Goals as goal

pub returns : goal.returns
returns g c =
    let curve = c.args.curve.now in
    sends_added (curve_text curve.search curve.goal curve.seed curve.rows.items) c.finish.result c.new-writer.ensures.empty
    (adds_then c.put.ensures (adds_as (ap (flat_map (row_text curve.search curve.goal curve.seed)) c.deref.ensures.value) c.put_rows.ensures)) c.finish.ensures
