use Rattle.std.proofs.Common.{ap, decimal}
use Rattle.rv_io.proofs.Adding.{adds_as, adds_then}
use Rattle.rv_curve.proofs.report.put_row.Goals as goal

pub returns : goal.returns
returns g c =
    let lines = adds_as (ap decimal c.from.ensures) c.put_number.ensures in
    let gates = adds_as (ap decimal c.from-2.ensures) c.put_number-3.ensures in
    let end = adds_then gates (adds_then c.put-4.ensures (adds_then c.put_call.ensures c.put-5.ensures)) in
    adds_then lines
    (adds_then c.put.ensures (adds_then c.put_counts.ensures (adds_then c.put-2.ensures (adds_then c.put_number-2.ensures (adds_then c.put-3.ensures end)))))
