use Rattle.std.proofs.Common.{◌∙◌, ◌+◌, ap, arith, sym, length, take}
use Rattle.std.proofs.lemmas.List.{length-take-le, take_all}
use Rattle.rv_many.specs.Column.{column}
use Rattle.rv_many.proofs.Columns.{length-column}
use Rattle.rv_blif.specs.Logic.{values, with_nodes}
use Rattle.rv_blif.proofs.NodeLaws.{AreNodes-at, node_more}
use Rattle.rv_blif.proofs.logic.Logic.set_nodes.Goals as goal

pub node_row-requires : goal.node_row-requires
node_row-requires c =
    let inputs = c.input_count-inputs.result in
    let k = c.loop-k.k in
    let same_nodes = c.nodes-nodes.ensures.value in
    let count = ap length same_nodes in
    let short = length-take-le (inputs + k) c.loop-k.rows (omega (arith, c.requires, c.loop-k.auto.rows, c.input_count-inputs.ensures.value, count, c.loop-k-test.true)) in
    let at = AreNodes-at (length c.args.self.now.inputs) c.nodes-nodes.result.now k c.index-nodes-k.result (rw same_nodes c.nodes-nodes.ensures.valid.nodes) c.loop-k-test.true in
    rw (short, c.input_count-inputs.ensures.value) (rw (sym c.index-nodes-k.is) at at)

pub loop-k-preserved : goal.loop-k-preserved
loop-k-preserved c = λ j lt.
    let count = ap length c.nodes-nodes.ensures.value in
    node_more c.nodes-nodes.result.now c.loop-k.rows c.input_count-inputs.result c.loop-k.k c.index-nodes-k.result c.index-nodes-k.result
    (take c.input_count-inputs.result (column c.args.rows.now j)) c.node_row.result j
    (omega (arith, c.requires, c.loop-k.auto.rows, c.input_count-inputs.ensures.value, count, c.loop-k-test.true))
    c.loop-k-test.true (sym c.index-nodes-k.is) (c.loop-k.invariant j lt) (c.node_row.ensures j lt)

pub returns-clause-words : goal.returns-clause-words
unfolding values
returns-clause-words c = λ j lt.
    let inputs = c.input_count-inputs.result in
    let count = ap length c.nodes-nodes.ensures.value in
    let word = column c.args.rows.now j in
    sym (take_all (inputs + c.loop-k.k) (column c.loop-k.rows j)
    (omega (arith, length-column c.loop-k.rows j, c.requires, c.loop-k.auto.rows, c.input_count-inputs.ensures.value, count, c.loop-k-test.false)))
    ∙ c.loop-k.invariant j lt
    ∙ ap (λ ns. with_nodes ns (take inputs word)) (take_all c.loop-k.k c.nodes-nodes.result.now c.loop-k-test.false ∙ c.nodes-nodes.ensures.value)
    ∙ ap (λ n. with_nodes c.args.self.now.nodes (take n word)) c.input_count-inputs.ensures.value
