use Rattle.std.proofs.Common.{sym, ap, ◌∙◌, arith}
use Rattle.rv_links.specs.Nodes.{gates_in}
use Rattle.rv_links.proofs.inside.WindowLemmas.{live_after}
use Rattle.rv_templ.specs.inside.Library.{templates_in}
use Rattle.rv_templ.specs.Choices.{window_at}
use Rattle.rv_templ.specs.inside.Linking.{coming}
use Rattle.rv_templ.proofs.inside.WindowSteps.{window_step_none}
use Rattle.rv_templ.proofs.inside.LinkedWindows.{rest_more, node_more, rest_within, rest_end, shorter_next, clean_more}
use Rattle.rv_templ.proofs.windows.first_window.Goals as goal

pub returns-in-Some-window_at : goal.returns-in-Some-window_at
returns-in-Some-window_at c =
    let on = rw c.in-Some.is at c.loop-at.invariant.live in
    let here = ap (λ q. coming q c.args.linked.now.nodes) (sym c.in-Some.is) ∙ c.loop-at.invariant.rest in
    record {
      live = on;
      first = sym c.in-Some.is ∙ c.loop-at.invariant.node;
      here = here;
      within = rest_within c.in-Some.node c.args.linked.now.nodes c.loop-at.at c.loop-at.place c.recall_invariant.ensures.once on c.in-Some.is c.loop-at.invariant.rest;
      clean = c.loop-at.invariant.clean;
      exact = ap (λ l. window_at l (templates_in c.args.templates.now)) (sym here) ∙ sym c.in-Some-window_at.ensures;
    }

pub overflow_add-place : goal.overflow_add-place
overflow_add-place c =
    let on = rw c.in-Some.is at c.loop-at.invariant.live in
    let within = rest_within c.in-Some.node c.args.linked.now.nodes c.loop-at.at c.loop-at.place c.recall_invariant.ensures.once on c.in-Some.is c.loop-at.invariant.rest in
    let most = c.recall_invariant.ensures.circuit.bounded in
    omega (arith, within, most)

pub loop-at-smaller : goal.loop-at-smaller
loop-at-smaller c =
    let on = rw c.in-Some.is at c.loop-at.invariant.live in
    shorter_next c.in-Some.node c.args.linked.now.nodes c.next-at.result c.loop-at.at c.recall_invariant.ensures.once on c.next-at.ensures c.in-Some.is

pub loop-at-preserved : goal.loop-at-preserved
loop-at-preserved c =
    let on = rw c.in-Some.is at c.loop-at.invariant.live in
    record {
      rest = rest_more c.in-Some.node c.args.linked.now.nodes c.next-at.result c.loop-at.at c.loop-at.place c.recall_invariant.ensures.once on c.next-at.ensures c.in-Some.is c.loop-at.invariant.rest;
      node = node_more c.in-Some.node c.args.linked.now.nodes c.next-at.result c.loop-at.at c.loop-at.place c.recall_invariant.ensures.once c.next-at.ensures c.in-Some.is c.loop-at.invariant.node;
      live = live_after c.in-Some.node c.args.linked.now.nodes c.next-at.result c.recall_invariant.ensures.once c.next-at.ensures;
      clean = clean_more (templates_in c.args.templates.now) (gates_in c.args.linked.now.nodes) (coming c.loop-at.at c.args.linked.now.nodes) c.loop-at.place c.loop-at.invariant.clean c.loop-at.invariant.rest
          (ap (λ q. window_at (coming q c.args.linked.now.nodes) (templates_in c.args.templates.now)) c.in-Some.is ∙ sym c.in_default-window_at.ensures);
    }

pub returns : goal.returns
returns c =
    let past = rest_end c.args.linked.now.nodes c.loop-at.at c.loop-at.place c.in_default.is c.loop-at.invariant.rest in
    window_step_none (templates_in c.args.templates.now) (gates_in c.args.linked.now.nodes) (λ i lt. c.loop-at.invariant.clean i (omega (arith, past, lt)))
