use Rattle.std.proofs.Common.{◌≡◌, true, refl, sym, ◌∙◌, ap, arith}
use Rattle.rv_gate.specs.Commuting.{rule}
use Rattle.rv_links.specs.Order.{lists}
use Rattle.rv_links.proofs.inside.LinkedLemmas.{on_by, live_by, gate_by}
use Rattle.rv_links.proofs.linked.Linked.next_in_doubt.Goals as goal

pub overflow_add-node-inside : goal.overflow_add-node-inside
overflow_add-node-inside c =
    let lt = c.self.invariant.0.below _ (on_by _ _ c.self.view_is c.node.view_is c.requires) in
    omega (arith, c.self.invariant.0.most)

pub returns-in-Some-clause-later : goal.returns-in-Some-clause-later
returns-in-Some-clause-later c =
    let late = c.in-Some.ensures.late in
    let below = c.self.invariant.0.below _ late.0 in
    (sym (live_by _ _ c.self.view_is refl (sym late.0)), omega (arith, late.1, c.node.view_is), omega (arith, below, c.self.invariant.0.most))

pub returns-in-Some-clause-free : goal.returns-in-Some-clause-free
returns-in-Some-clause-free c x live lt before =
    let on : lists x c.self.inside.order.ids ≡ true = on_by _ _ c.self.view_is refl live in
    ap (rule c.args.gate) (sym (gate_by _ _ c.self.view_is refl on refl))
    ∙ (rw c.deref.ensures.value at c.in-Some.ensures.free) x on (omega (arith, lt, c.node.view_is)) before

pub returns-in-None-clause-free : goal.returns-in-None-clause-free
returns-in-None-clause-free c x live lt before =
    let on : lists x c.self.inside.order.ids ≡ true = on_by _ _ c.self.view_is refl live in
    ap (rule c.args.gate) (sym (gate_by _ _ c.self.view_is refl on refl))
    ∙ (rw c.deref.ensures.value at c.in-None.ensures.free) x on (omega (arith, lt, c.node.view_is)) before
