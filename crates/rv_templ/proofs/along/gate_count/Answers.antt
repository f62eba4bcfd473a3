use Rattle.std.proofs.Common.{sym, ◌∙◌, arith}
use Rattle.std.proofs.lemmas.List.{length-map}
use Rattle.rv_links.specs.Nodes.{Node}
use Rattle.rv_templ.proofs.inside.CursorLaws.{live_here, within_here, all_passed}
use Rattle.rv_templ.proofs.inside.LinkedWindows.{node_more, shorter_next}
use Rattle.rv_templ.proofs.along.gate_count.Goals as goal

pub next-at-requires : goal.next-at-requires
next-at-requires c = live_here c.args.linked.now.nodes c.loop-at.place c.in-Some.node (sym c.in-Some.is ∙ c.loop-at.invariant.node)

pub overflow_add-place : goal.overflow_add-place
overflow_add-place c =
    let most = c.recall_invariant.ensures.circuit.bounded in
    let within = within_here c.args.linked.now.nodes c.loop-at.place c.in-Some.node (sym c.in-Some.is ∙ c.loop-at.invariant.node) in
    omega (arith, most, within, length-map c.args.linked.now.nodes (λ (n : Node). n.gate))

pub loop-at-smaller : goal.loop-at-smaller
loop-at-smaller c =
    shorter_next c.in-Some.node c.args.linked.now.nodes c.next-at.result c.loop-at.at c.recall_invariant.ensures.once
    (live_here c.args.linked.now.nodes c.loop-at.place c.in-Some.node (sym c.in-Some.is ∙ c.loop-at.invariant.node)) c.next-at.ensures c.in-Some.is

pub loop-at-preserved : goal.loop-at-preserved
loop-at-preserved c = record {
  node = node_more c.in-Some.node c.args.linked.now.nodes c.next-at.result c.loop-at.at c.loop-at.place c.recall_invariant.ensures.once c.next-at.ensures c.in-Some.is c.loop-at.invariant.node;
  few =
      let within = within_here c.args.linked.now.nodes c.loop-at.place c.in-Some.node (sym c.in-Some.is ∙ c.loop-at.invariant.node) in
      omega (arith, within);
}

pub returns : goal.returns
returns c =
    let few = c.loop-at.invariant.few in
    let all = all_passed c.args.linked.now.nodes c.loop-at.place (sym c.in_default.is ∙ c.loop-at.invariant.node) in
    omega (arith, few, all)
