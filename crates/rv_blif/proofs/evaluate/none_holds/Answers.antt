use Rattle.rv_many.specs.Column.{column, row_bit}
use Rattle.std.proofs.Common.{◌&&◌, ◌∙◌, ap, arith}
use Rattle.rv_blif.proofs.NodeLaws.{none_step}
use Rattle.rv_blif.proofs.evaluate.none_holds.Goals as goal

pub loop-product-preserved : goal.loop-product-preserved
loop-product-preserved c = λ j lt.
    none_step c.args.products.now c.loop-product.product-index _ (column c.args.rows.now j) _ _ _ (omega arith)
    (c.loop-product.invariant j lt) (c.product_row.ensures j lt) (c.and-none.ensures j lt ∙ ap (λ b. row_bit c.loop-product.none j && b) (c.matching.ensures j lt))
