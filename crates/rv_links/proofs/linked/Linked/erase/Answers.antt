use Rattle.std.proofs.Common.{ap, sym, ◌∙◌}
use Rattle.rv_links.specs.inside.Ring.{Order}
use Rattle.rv_links.specs.Nodes.{Linkage, erased}
use Rattle.rv_links.specs.inside.Chains.{nodes_of}
use Rattle.rv_links.proofs.inside.LinkedLemmas.{on_by, erase_linked, erased_nodes, linkage}
use Rattle.rv_links.proofs.inside.IndexLemmas.{searchable_erased}
use Rattle.rv_links.proofs.inside.BlockLemmas.{covered_erased}
use Rattle.rv_links.proofs.inside.StayLemmas.{stays_erased}
use Rattle.rv_links.proofs.linked.Linked.erase.Goals as goal

pub remove-requires : goal.remove-requires
remove-requires c = on_by _ _ c.self.view_is c.node.view_is c.requires

pub invariant_of-self : goal.invariant_of-self
invariant_of-self c = (
  erase_linked _ _ _ _ _ c.self.invariant.0 c.remove.ensures,
  c.self.invariant.1,
  c.self.invariant.2,
  searchable_erased _ _ _ _ _ c.remove.ensures c.self.invariant.3,
  covered_erased _ _ _ _ _ _ _ c.remove.ensures c.self.invariant.4,
)

pub returns-clause-list : goal.returns-clause-list
returns-clause-list c =
    rw (← c.self.view_is)
    (linkage _ _ _
    (ap (λ (o : Order). nodes_of c.self.inside.gates.items o.ids) c.remove.ensures
    ∙ sym (erased_nodes c.self.inside.gates.items c.self.inside.order.ids c.node.inside.id)
    ∙ ap (λ x. erased x (nodes_of c.self.inside.gates.items c.self.inside.order.ids)) c.node.view_is))

pub returns-clause-others : goal.returns-clause-others
returns-clause-others c id ne on = stays_erased c.args.node id _ _ ne on (ap (λ (l : Linkage). l.nodes) (returns-clause-list c))
