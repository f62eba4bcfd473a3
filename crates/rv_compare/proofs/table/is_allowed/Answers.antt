use Rattle.std.proofs.Common.{◌∙◌, sym, ap, arith, get_or, below_more}
use Rattle.rv_many.proofs.Columns.{bit_of-column, blank}
use Rattle.rv_many.specs.Column.{row_bit}
use Rattle.rv_pla.specs.FreeEntries.{allows}
use Rattle.rv_compare.proofs.table.is_allowed.Goals as goal

pub loop-output-preserved : goal.loop-output-preserved
loop-output-preserved c =
    let rows = c.args.rows.now in
    let place = c.args.place in
    let output = c.loop-output.output in
    below_more _ _ c.loop-output.invariant
    (ap (allows _) (bit_of-column rows output place blank (omega arith) ∙ ap (λ k. row_bit (get_or rows k blank) place) (sym c.from.ensures) ∙ sym c.bit.ensures)
    ∙ ap (λ entry. allows entry c.bit.result) (sym c.value.ensures)
    ∙ sym c.allows.ensures
    ∙ c.if-not-allows.false)
