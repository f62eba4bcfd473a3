use Rattle.std.proofs.Common.{suc, length, drop, ap, sym, ◌∙◌, subst}
use Rattle.rv_gate.specs.declared.gate.Shape.{Shape}
use Rattle.rv_gate.specs.Gate.{FitsIn}
use Rattle.rv_links.specs.Nodes.{Linkage}
use Rattle.rv_links.specs.inside.Chains.{blank, finish}
use Rattle.rv_links.proofs.inside.LinkedLemmas.{gate_read}
use Rattle.rv_links.proofs.inside.WindowLemmas.{place_gate, place_none, live_regated, live_erased}
use Rattle.rv_links.proofs.linked.Linked.place.Goals as goal

pub set_gate-requires-clause-fits : goal.set_gate-requires-clause-fits
set_gate-requires-clause-fits c =
    subst (λ (g : Shape). FitsIn g (length c.args.self.now.frame.names)) (sym (gate_read _ _ _ c.if-i-gates.true c.index-gates-i.is)) (c.requires.fits c.args.i blank c.if-i-gates.true)

pub returns-then-i-gates-clause-live : goal.returns-then-i-gates-clause-live
returns-then-i-gates-clause-live c =
    live_regated _ _ _ _ _ c.recall_invariant.ensures.once c.next-next.ensures (ap (λ (v : Linkage). v.nodes) c.set_gate.ensures)

pub returns-then-i-gates-clause-same : goal.returns-then-i-gates-clause-same
returns-then-i-gates-clause-same c k =
    ap (λ o. finish o (suc k) (drop c.args.i c.args.gates.now) c.args.self.now.nodes) c.in-Some.is
    ∙ place_gate _ _ _ _ _ _ _ _ c.recall_invariant.ensures.once c.if-i-gates.true
    (gate_read _ _ _ c.if-i-gates.true c.index-gates-i.is) c.next-next.ensures (ap (λ (v : Linkage). v.nodes) c.set_gate.ensures)

pub returns-else-i-gates-clause-live : goal.returns-else-i-gates-clause-live
returns-else-i-gates-clause-live c =
    live_erased _ _ _ _ c.recall_invariant.ensures.once c.next-next.ensures (ap (λ (v : Linkage). v.nodes) c.erase.ensures.list)

pub returns-else-i-gates-clause-same : goal.returns-else-i-gates-clause-same
returns-else-i-gates-clause-same c k =
    ap (λ o. finish o (suc k) (drop c.args.i c.args.gates.now) c.args.self.now.nodes) c.in-Some.is
    ∙ place_none _ _ _ _ _ _ _ c.recall_invariant.ensures.once c.if-i-gates.false
    c.next-next.ensures (ap (λ (v : Linkage). v.nodes) c.erase.ensures.list)
