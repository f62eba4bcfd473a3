use Rattle.std.proofs.Common.{◌∙◌, ap, length, sym}
use Rattle.std.proofs.lemmas.List.{take_all}
use Rattle.rv_blif.specs.Logic.{values, with_nodes}
use Rattle.rv_blif.proofs.NodeLaws.{AreNodes-at}
use Rattle.rv_compare.proofs.inside.Drawn.{signals_more, went_well}
use Rattle.rv_compare.proofs.drawn.signal_edges.Goals as goal

pub node_edge-requires-clause-node : goal.node_edge-requires-clause-node
node_edge-requires-clause-node c =
    let nodes = c.nodes-nodes.result.now in
    let at = AreNodes-at (length c.args.logic.now.inputs) nodes c.loop-k.k c.index-nodes-k.result (rw c.nodes-nodes.ensures.value c.nodes-nodes.ensures.valid.nodes) c.loop-k-test.true in
    rw (c.deref.ensures.value, c.in_ok-make_room.ensures.count, c.loop-k.invariant.count, c.requires.inputs) (rw (sym c.index-nodes-k.is) at at)

pub loop-k-preserved : goal.loop-k-preserved
loop-k-preserved c =
    let nodes = c.nodes-nodes.result.now in
    rw (c.push.ensures.items, went_well c.push.result (sym c.is_err.ensures.value ∙ c.if-is_err.false))
    (signals_more c.loop-k.diagram c.make_room.new.diagram c.node_edge.new.diagram c.args.inputs nodes c.loop-k.signals.items c.make_room.new.signals.items c.loop-k.k c.index-nodes-k.result c.in_ok-edge.edge
    c.loop-k-test.true c.loop-k.invariant c.in_ok-make_room.ensures c.in_ok-edge.ensures.keeps c.in_ok-edge.ensures.edge
    (λ x. rw (sym c.index-nodes-k.is) (rw c.deref.ensures.value at c.in_ok-edge.ensures.value x)))

pub returns-clause-words : goal.returns-clause-words
unfolding values
returns-clause-words c = λ x len.
    c.loop-k.invariant.words x len
    ∙ ap (λ ns. with_nodes ns x) (take_all c.loop-k.k c.nodes-nodes.result.now c.loop-k-test.false ∙ c.nodes-nodes.ensures.value)
