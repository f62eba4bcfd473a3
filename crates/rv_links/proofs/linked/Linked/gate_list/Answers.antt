use Rattle.std.proofs.Common.{◌≡◌, ℕ, suc, ◌++◌, true, length, List, ap, sym, ◌∙◌, subst, arith, append-nil}
use Rattle.std.specs.Prelude.{IfSome, Option}
use Rattle.rv_gate.specs.declared.gate.Shape.{Shape}
use Rattle.rv_links.specs.Nodes.{live}
use Rattle.rv_links.proofs.inside.WindowLemmas.{to_come, come_first, come_next, come_none, come_push, live_first, live_after, none_left}
use Rattle.rv_links.proofs.linked.Linked.gate_list.Goals as goal

pub loop-at-init : goal.loop-at-init
loop-at-init c = record {
  live = live_first _ _ c.first-at.ensures;
  gates = ap (λ (l : List Shape). l ++ to_come c.first-at.result c.args.self.now.nodes) c.new-gates.ensures.items ∙ come_first _ _ c.first-at.ensures;
}

pub loop-at-smaller : goal.loop-at-smaller
loop-at-smaller c =
    let on : live c.in-Some.node c.args.self.now.nodes ≡ true = subst (λ (o : Option ℕ). IfSome o (λ a. live a c.args.self.now.nodes ≡ true)) c.in-Some.is c.loop-at.invariant.live in
    let l : length (to_come c.loop-at.at c.args.self.now.nodes) ≡ suc (length (to_come c.next-at.result c.args.self.now.nodes)) = ap length (come_next _ _ _ _ _ c.recall_invariant.ensures.once on c.next-at.ensures c.gate-gate.ensures c.in-Some.is) in
    omega arith

pub loop-at-preserved : goal.loop-at-preserved
loop-at-preserved c =
    let on : live c.in-Some.node c.args.self.now.nodes ≡ true = subst (λ (o : Option ℕ). IfSome o (λ a. live a c.args.self.now.nodes ≡ true)) c.in-Some.is c.loop-at.invariant.live in
    record {
      live = live_after _ _ _ c.recall_invariant.ensures.once c.next-at.ensures;
      gates = come_push _ _ _ _ _ _ _ c.in_ok-push.ensures.items c.loop-at.invariant.gates (come_next _ _ _ _ _ c.recall_invariant.ensures.once on c.next-at.ensures c.gate-gate.ensures c.in-Some.is);
    }

pub returns : goal.returns
returns c =
    sym (append-nil c.loop-at.gates.items) ∙ ap (λ (l : List Shape). c.loop-at.gates.items ++ l) (sym (come_none _ _ (none_left _ c.in_default.not-Some))) ∙ c.loop-at.invariant.gates
