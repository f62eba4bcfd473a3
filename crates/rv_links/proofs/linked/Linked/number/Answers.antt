use Rattle.std.proofs.Common.{◌≡◌, true, arith}
use Rattle.rv_links.specs.Order.{lists}
use Rattle.rv_links.proofs.inside.LinkedLemmas.{on_by}
use Rattle.rv_links.proofs.linked.Linked.number.Goals as goal

pub returns-clause-few : goal.returns-clause-few
returns-clause-few c =
    let on : lists c.node.inside.id c.self.inside.order.ids ≡ true = on_by _ _ c.self.view_is c.node.view_is c.requires in
    let lt = c.self.invariant.0.below _ on in
    omega (arith, c.self.invariant.0.most)

pub prove-unreachable-requires : goal.prove-unreachable-requires
prove-unreachable-requires c =
    let on : lists c.node.inside.id c.self.inside.order.ids ≡ true = on_by _ _ c.self.view_is c.node.view_is c.requires in
    let lt = c.self.invariant.0.below _ on in
    omega arith
