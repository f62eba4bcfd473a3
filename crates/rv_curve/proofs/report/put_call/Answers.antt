use Rattle.std.proofs.Common.{ap, decimal}
use Rattle.rv_io.proofs.Adding.{adds_as, adds_then}
use Rattle.rv_curve.proofs.report.put_call.Goals as goal

pub returns : goal.returns
returns g c =
    let most = adds_as (ap decimal c.from.ensures) c.put_number.ensures in
    let word = adds_as c.goal_word.ensures c.put-3.ensures in
    let effort = adds_as (ap decimal c.from-2.ensures) c.put_number-2.ensures in
    let seed = adds_as (ap decimal c.from-3.ensures) c.put_number-3.ensures in
    adds_then (adds_as c.search_words.ensures c.put.ensures)
    (adds_then most (adds_then c.put-2.ensures (adds_then word (adds_then c.put-4.ensures (adds_then effort (adds_then c.put-5.ensures seed))))))
