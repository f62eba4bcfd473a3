use Rattle.std.proofs.Common.{◌+◌, ◌∙◌, arith}
use Rattle.rv_many.proofs.Columns.{blank}
use Rattle.rv_many.proofs.Transposed.{IsRowOf, row_of_parts, set_below}
use Rattle.rv_many.proofs.words.set_eight_rows.Goals as goal

pub loop-i-preserved : goal.loop-i-preserved
loop-i-preserved c =
    let i = c.loop-i.i in
    let words = c.args.words.now in
    set_below (λ i row. IsRowOf words (c.args.line + i) row) c.loop-i.rows i _ blank (omega arith) c.loop-i.invariant
    (row_of_parts words (c.args.line + i) _ _ _ _
    (λ j lj lt. c.number_by.ensures j lj ∙ c.parts_of-a.ensures.bits i j (omega arith) lj)
    (λ j lj lt. c.number_by-in-loop-i.ensures j lj ∙ c.parts_of-b.ensures.bits i j (omega arith) lj)
    (λ j lj lt. c.number_by-in-loop-i-2.ensures j lj ∙ c.parts_of-c.ensures.bits i j (omega arith) lj)
    (λ j lj lt. c.number_by-in-loop-i-3.ensures j lj ∙ c.parts_of-d.ensures.bits i j (omega arith) lj)
    c.requires.few)
