use Rattle.std.proofs.Common.{◌&&◌, ap, sym, ◌∙◌, arith}
use Rattle.rv_gate.specs.Word.{has}
use Rattle.rv_gate.specs.Gate.{all_below, same}
use Rattle.rv_many.specs.Column.{column, row_bit}
use Rattle.rv_blif.proofs.NodeLaws.{asked, not_asked, held, literal}
use Rattle.rv_blif.proofs.evaluate.product_row.Goals as goal
use Rattle.rv_blif.proofs.evaluate.product_row.Goals.{then-has, else-has}

pub loop-i-preserved : goal.loop-i-preserved
loop-i-preserved c = λ j lt.
    let rows = c.args.rows.now in
    let i = c.loop-i.i in
    elim c.if-has.branch [
      | then-has w ↦
          rw w.on-is
          (asked rows c.args.product.care c.args.product.want i c.loop-i.on w.and-on.result _ j (omega arith)
          (sym (c.has.ensures ∙ ap (λ s. has s i) c.from.ensures) ∙ w.if-has.true)
          (c.loop-i.invariant j lt)
          (w.and-on.ensures j lt
          ∙ ap (λ b. row_bit c.loop-i.on j && b)
          (w.matching.ensures j lt ∙ ap (same _) (w.has-then-has.ensures ∙ ap (λ s. has s i) w.from-then-has.ensures))))
      | else-has w ↦
          rw w.on-is
          (not_asked rows c.args.product.care c.args.product.want i c.loop-i.on j
          (sym (c.has.ensures ∙ ap (λ s. has s i) c.from.ensures) ∙ w.if-has.false)
          (c.loop-i.invariant j lt))
    ]

pub returns : goal.returns
returns c = λ j lt.
    held c.args.rows.now c.args.product.care c.args.product.want c.loop-i.on j
    (c.loop-i.invariant j lt ∙ ap (all_below (literal c.args.product.care c.args.product.want (column c.args.rows.now j))) (omega arith))
