use Rattle.std.proofs.Common.{◌≡◌, true, arith}
use Rattle.rv_links.specs.Order.{lists}
use Rattle.rv_links.proofs.inside.LinkedLemmas.{on_by, gate_by, gate_read}
use Rattle.rv_links.proofs.linked.Linked.gate.Goals as goal

pub index-requires : goal.index-requires
index-requires c =
    let on : lists c.node.inside.id c.self.inside.order.ids ≡ true = on_by _ _ c.self.view_is c.node.view_is c.requires in
    let lt = c.self.invariant.0.below _ on in
    omega arith

pub returns : goal.returns
returns c =
    let on : lists c.node.inside.id c.self.inside.order.ids ≡ true = on_by _ _ c.self.view_is c.node.view_is c.requires in
    gate_by _ _ c.self.view_is c.node.view_is on (gate_read _ _ _ (c.self.invariant.0.below _ on) c.index.ensures)
