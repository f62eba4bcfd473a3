use Rattle.std.proofs.Common.{◌≡◌, length, true, ap, sym, ◌∙◌, arith}
use Rattle.std.proofs.lemmas.List.{length-set}
use Rattle.rv_links.specs.Order.{lists}
use Rattle.rv_links.specs.Nodes.{regated}
use Rattle.rv_links.specs.inside.Chains.{nodes_of}
use Rattle.rv_links.proofs.inside.LinkedLemmas.{on_by, linkage}
use Rattle.rv_links.proofs.inside.ChangeLemmas.{regated_nodes, regate_linked}
use Rattle.rv_links.proofs.inside.UsedLemmas.{uses_set}
use Rattle.rv_links.proofs.inside.BlockLemmas.{covered_set}
use Rattle.rv_links.proofs.inside.IndexLemmas.{searchable_with}
use Rattle.rv_links.proofs.linked.Linked.set_gate.Goals as goal

pub index_mut-requires : goal.index_mut-requires
index_mut-requires c =
    let lt = c.self.invariant.0.below _ (on_by _ _ c.self.view_is c.node.view_is c.requires.live) in
    omega arith

pub keep-self-inside-requires-clause-there : goal.keep-self-inside-requires-clause-there
keep-self-inside-requires-clause-there c =
    let lt = c.self.invariant.0.below _ (on_by _ _ c.self.view_is c.node.view_is c.requires.live) in
    omega (arith, ap length c.deref.ensures.value, length-set c.self.inside.gates.items c.node.inside.id c.args.gate)

pub invariant_of-self : goal.invariant_of-self
invariant_of-self c =
    let on : lists c.node.inside.id c.self.inside.order.ids ≡ true = on_by _ _ c.self.view_is c.node.view_is c.requires.live in
    let lt = c.self.invariant.0.below _ on in (
      regate_linked _ _ _ _ _ c.self.invariant.0 on (rw (← c.self.view_is) at c.requires.fits) c.recall_invariant.ensures,
      uses_set _ _ _ _ c.self.inside.gates.items c.node.inside.id c.args.gate lt c.read_by.ensures c.targets.ensures c.self.invariant.1,
      c.self.invariant.2 ∙ sym (length-set c.self.inside.gates.items c.node.inside.id c.args.gate),
      (let l : length c.keep-self-inside.new.slots ≡ length c.deref_mut.result.now = c.keep-self-inside.ensures.long in
          searchable_with _ _ _ _ _ (omega (arith, l)) (omega (arith, l, ap length c.deref_mut.ensures.value, c.self.invariant.3.some))
          (rw c.deref.ensures.value at c.keep-self-inside.ensures.indexed) c.self.invariant.3.rising),
      covered_set _ _ _ _ _ _ _ _ _ _ lt c.enter.ensures.here c.enter.ensures.others c.self.invariant.4,
    )

pub returns : goal.returns
returns c =
    let on : lists c.node.inside.id c.self.inside.order.ids ≡ true = on_by _ _ c.self.view_is c.node.view_is c.requires.live in
    rw (← c.self.view_is)
    (linkage _ _ _
    (regated_nodes _ _ _ _ (c.self.invariant.0.below _ on) c.self.invariant.0.once
    ∙ ap (λ x. regated x c.args.gate (nodes_of c.self.inside.gates.items c.self.inside.order.ids)) c.node.view_is))
