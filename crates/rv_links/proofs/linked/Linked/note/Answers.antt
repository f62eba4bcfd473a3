use Rattle.std.proofs.Common.{◌≡◌, ◌<◌, length, true, arith}
use Rattle.rv_links.specs.Order.{lists}
use Rattle.rv_links.proofs.inside.LinkedLemmas.{on_by, note_by}
use Rattle.rv_links.proofs.linked.Linked.note.Goals as goal

pub index-requires : goal.index-requires
index-requires c =
    let on : lists c.node.inside.id c.self.inside.order.ids ≡ true = on_by _ _ c.self.view_is c.node.view_is c.requires in
    let lt = c.self.invariant.0.below _ on in
    omega (arith, c.self.invariant.2)

pub returns : goal.returns
returns c =
    let on : lists c.node.inside.id c.self.inside.order.ids ≡ true = on_by _ _ c.self.view_is c.node.view_is c.requires in
    let lt : c.node.inside.id < length c.self.inside.gates.items = c.self.invariant.0.below _ on in
    note_by _ _ c.self.view_is c.node.view_is (omega (arith, lt, c.self.invariant.2)) c.index.ensures
