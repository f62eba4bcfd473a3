use Rattle.std.proofs.Common.{ap, decimal, sym}
use Rattle.rv_io.proofs.Adding.{adds_as, adds_then}
use Rattle.rv_curve.specs.Report.{counts_text}
use Rattle.rv_curve.proofs.report.put_counts.Goals as goal

pub returns-in-Some : goal.returns-in-Some
returns-in-Some g c =
    let t = adds_as (ap decimal c.from.ensures) c.put_number.ensures in
    let cnot = adds_as (ap decimal c.from-in-Some.ensures) c.put_number-in-Some.ensures in
    adds_as (ap counts_text (sym c.in-Some.is)) (adds_then t (adds_then c.put.ensures cnot))
