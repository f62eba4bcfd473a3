use Rattle.std.proofs.Common.{◌∙◌, ap, arith, get_or, length}
use Rattle.rv_many.specs.Column.{column}
use Rattle.rv_many.proofs.Columns.{blank}
use Rattle.rv_blif.specs.Logic.{any_holds}
use Rattle.std.proofs.Common.{not}
use Rattle.rv_blif.proofs.NodeLaws.{node_bit, operand_rows}
use Rattle.rv_blif.proofs.evaluate.node_row.Goals as goal

pub returns : goal.returns
returns c = λ j lt.
    let node = c.args.node.now in
    let rows = c.args.rows.now in
    let same_operands = c.operands-operands.ensures.value in
    let count = ap length same_operands in
    let own = operand_rows node.operands rows c.loop-i.operand_rows j (omega (arith, count, c.loop-i.invariant.count))
    (λ k h. c.loop-i.invariant.each k (omega (arith, count, c.loop-i-test.false)) ∙ ap (λ l. get_or rows (get_or l k 0) blank) same_operands)
    (λ k h. c.requires.operands k 0 h) in
    c.matching.ensures j lt
    ∙ node_bit node rows c.loop-i.operand_rows j _ _
    (c.none_holds.ensures j lt ∙ ap (λ l. not (any_holds l (column c.loop-i.operand_rows j))) c.products.ensures.value)
    c.on.ensures own
