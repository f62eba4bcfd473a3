use Rattle.std.proofs.Common.{◌≡◌, ℕ, List, length, ap, sym, subst, ◌∙◌, arith}
use Rattle.std.specs.List.{range_with_len}
use Rattle.rv_gate.specs.declared.gate.Shape.{Shape}
use Rattle.rv_gate.specs.Circuit.{Cascade}
use Rattle.rv_links.specs.Nodes.{gates_in}
use Rattle.rv_links.specs.inside.Chains.{nodes_of}
use Rattle.rv_links.proofs.inside.ChangeLemmas.{linked_range, made_ids, made_gates}
use Rattle.rv_links.specs.Order.{Rising}
use Rattle.rv_links.proofs.inside.IndexLemmas.{searchable_with, rising_range}
use Rattle.rv_links.proofs.linked.Linked.from_circuit.Goals as goal

pub invariant_of-linked : goal.invariant_of-linked
invariant_of-linked c =
    let frame : c.set_gates.new.self ≡ record c.args.circuit.now { gates = c.new.result.items } = c.set_gates.ensures ∙ ap (λ (f : Cascade). record f { gates = c.new.result.items }) c.in_ok-frame.ensures in
    let names : length c.set_gates.new.self.names ≡ length c.args.circuit.now.names = ap (λ (f : Cascade). length f.names) frame in
    let gates : c.in_ok-gates.gates.items ≡ c.args.circuit.now.gates = c.in_ok-gates.ensures.items ∙ c.gates.ensures in
    let long : c.len-room.result ≡ length c.in_ok-gates.gates.items = omega arith in
    let ids : c.thread.new.order.ids ≡ range_with_len 0 (length c.in_ok-gates.gates.items) = c.thread.ensures.ids ∙ ap (λ n. range_with_len 0 n) long in
    let room : c.thread.new.order.room ≡ length c.in_ok-gates.gates.items = omega arith in
    let k = linked_range c.args.circuit.now _ c.in_ok-gates.gates.items c.thread.new.order c.recall_invariant.ensures names gates room ids in (
      k,
      rw c.deref.ensures.value at c.used-read.ensures,
      omega (arith, c.in_ok-notes.ensures.len),
      (let l : length c.renew.new.slots ≡ length c.deref_mut.result.now = c.renew.ensures.long in
          searchable_with _ _ _ _ _ (omega (arith, l)) (omega (arith, l, c.in_ok-slots.ensures.len))
          (rw c.deref-3.ensures.value at c.renew.ensures.indexed) (subst (λ (x : List ℕ). Rising x) (sym ids) (rising_range 0 _))),
      (λ x on. (rw c.deref-2.ensures.value at c.in_ok-blocks.ensures) x (k.below x on)),
    )

pub returns-clause-circuit : goal.returns-clause-circuit
returns-clause-circuit c =
    ap (λ (f : Cascade). record f { gates = gates_in (nodes_of c.in_ok-gates.gates.items c.thread.new.order.ids) }) (c.set_gates.ensures ∙ ap (λ (f : Cascade). record f { gates = c.new.result.items }) c.in_ok-frame.ensures)
    ∙ ap (λ (gates : List Shape). record c.args.circuit.now { gates = gates })
    (made_gates _ _ _ _ (c.in_ok-gates.ensures.items ∙ c.gates.ensures) c.deref.ensures.value (c.thread.ensures.ids ∙ ap (λ n. range_with_len 0 n) (let long : c.len-room.result ≡ length c.deref.result.now = omega (arith, c.deref.ensures.len) in long)))

pub returns-clause-ids : goal.returns-clause-ids
returns-clause-ids c =
    made_ids _ _ _ _ (c.in_ok-gates.ensures.items ∙ c.gates.ensures) c.deref.ensures.value (c.thread.ensures.ids ∙ ap (λ n. range_with_len 0 n) (let long : c.len-room.result ≡ length c.deref.result.now = omega (arith, c.deref.ensures.len) in long))
