use Rattle.std.proofs.Common.{Err, ap, sym}
use Rattle.rv_curve.proofs.Counted.{too_long, too_wide}
use Rattle.rv_curve.proofs.row.network_counts.Goals as goal

pub returns-in-Err-TooManyLines : goal.returns-in-Err-TooManyLines
returns-in-Err-TooManyLines c =
    let e = c.in-Err-TooManyLines in
    sym (too_wide c.args.circuit.now e.field-0-0 ((e.ensures.too_many_lines e.field-0-0).0 (ap Err e.field-0-is)))

pub returns-in-Err-TooManyOps : goal.returns-in-Err-TooManyOps
returns-in-Err-TooManyOps c =
    let e = c.in-Err-TooManyOps in
    sym (too_long c.args.circuit.now e.field-0-0 ((e.ensures.too_many_ops e.field-0-0).0 (ap Err e.field-0-is)))
