use Rattle.std.proofs.Common.{◌≡◌, ◌<◌, length, true, ap, sym, ◌∙◌, arith}
use Rattle.std.proofs.lemmas.List.{get_or-set_other}
use Rattle.std.proofs.lemmas.Grind.{get_or-set_at}
use Rattle.rv_links.specs.Order.{lists}
use Rattle.rv_links.specs.Nodes.{Linkage, noted}
use Rattle.rv_links.proofs.inside.LinkedLemmas.{on_by}
use Rattle.rv_links.proofs.linked.Linked.set_note.Goals as goal

pub index_mut-requires : goal.index_mut-requires
index_mut-requires c =
    let on : lists c.node.inside.id c.self.inside.order.ids ≡ true = on_by _ _ c.self.view_is c.node.view_is c.requires in
    let lt = c.self.invariant.0.below _ on in
    omega (arith, c.self.invariant.2)

pub returns-clause-here : goal.returns-clause-here
returns-clause-here c =
    let on : lists c.node.inside.id c.self.inside.order.ids ≡ true = on_by _ _ c.self.view_is c.node.view_is c.requires in
    let lt : c.node.inside.id < length c.self.inside.gates.items = c.self.invariant.0.below _ on in
    get_or-set_at c.self.inside.notes.items c.node.inside.id c.args.node c.args.note 0 (sym c.node.view_is) (omega (arith, lt, c.self.invariant.2))

pub returns-clause-others : goal.returns-clause-others
returns-clause-others c id ne =
    get_or-set_other c.self.inside.notes.items c.node.inside.id id c.args.note 0 (λ e. ne (e ∙ c.node.view_is)) ∙ ap (λ (v : Linkage). noted id v.notes) c.self.view_is
