use Rattle.std.proofs.Common.{refl, ap, sym, ◌∙◌}
use Rattle.std.proofs.lemmas.Bool.{eqb-true}
use Rattle.rv_links.specs.Order.{next_in}
use Rattle.rv_links.specs.Nodes.{ids_in}
use Rattle.rv_templ.proofs.inside.ForgetWalks.{near_start, near_live, near_more, near_off, near_found, near_end}
use Rattle.rv_templ.proofs.inside.LinkedWindows.{shorter_next}
use Rattle.rv_templ.proofs.inside.NoteLaws.{fewer_on, fewer_same, known_others}
use Rattle.rv_templ.proofs.notes.forget_near.Goals as goal

pub loop-at-init : goal.loop-at-init
loop-at-init c = record {
  frame = refl;
  nodes = refl;
  fewer = fewer_same c.args.linked.now.notes c.args.linked.now.notes refl;
  known = λ k. k;
  near = near_start c.args.linked.now.nodes c.args.linked.now.notes c.args.low.now.place c.args.a c.args.b c.args.made.now c.node_at-at.result c.node_at-at.ensures.node;
}

pub returns-then-eq-clause-kept : goal.returns-then-eq-clause-kept
returns-then-eq-clause-kept c gates first second xs ys eo ea eb within s =
    near_found c.args.linked.now.nodes c.loop-at.linked.notes c.args.low.now.place c.args.a c.args.b c.in-Some.node c.args.made.now c.loop-at.at gates first second xs ys c.recall_invariant.ensures.once c.requires.cursor.within c.loop-at.invariant.near
    c.in-Some.is (eqb-true c.in-Some.node c.args.b (sym c.eq.ensures ∙ c.if-eq.true)) eo ea eb s

pub loop-at-smaller : goal.loop-at-smaller
loop-at-smaller c =
    let on = near_live c.args.linked.now.nodes c.loop-at.linked.notes c.args.low.now.place c.args.a c.args.b c.in-Some.node c.args.made.now c.loop-at.at c.loop-at.invariant.near c.in-Some.is in
    shorter_next c.in-Some.node c.args.linked.now.nodes c.next-at.result c.loop-at.at c.recall_invariant.ensures.once on
    (c.next-at.ensures ∙ ap (λ l. next_in c.in-Some.node (ids_in l)) (c.forget_if_changed.ensures.nodes ∙ c.loop-at.invariant.nodes)) c.in-Some.is

pub loop-at-preserved : goal.loop-at-preserved
loop-at-preserved c =
    let nodes = c.forget_if_changed.ensures.nodes ∙ c.loop-at.invariant.nodes in
    let once = c.recall_invariant.ensures.once in
    let here = rw c.loop-at.invariant.nodes at c.forget_if_changed.ensures.here in
    record {
      frame = c.forget_if_changed.ensures.frame ∙ c.loop-at.invariant.frame;
      nodes = nodes;
      fewer = fewer_on c.args.linked.now.notes c.loop-at.linked.notes c.forget_if_changed.new.linked.notes c.loop-at.invariant.fewer c.forget_if_changed.ensures.fewer;
      known = λ k. known_others c.loop-at.linked.notes c.forget_if_changed.new.linked.notes c.in-Some.node _
          (near_off c.args.linked.now.nodes c.loop-at.linked.notes c.args.low.now.place c.args.a c.args.b c.in-Some.node c.args.made.now c.loop-at.at once c.loop-at.invariant.near c.in-Some.is) c.forget_if_changed.ensures.others (c.loop-at.invariant.known k);
      near = near_more c.args.linked.now.nodes c.loop-at.linked.notes c.forget_if_changed.new.linked.notes c.args.low.now.place c.args.a c.args.b c.in-Some.node c.args.made.now c.loop-at.at c.next-at.result once c.loop-at.invariant.near c.in-Some.is
          c.forget_if_changed.ensures.fewer here (c.next-at.ensures ∙ ap (λ l. next_in c.in-Some.node (ids_in l)) nodes);
    }

pub returns-clause-kept : goal.returns-clause-kept
returns-clause-kept c gates first second xs ys eo ea eb within s =
    near_end c.args.linked.now.nodes c.loop-at.linked.notes c.args.low.now.place c.args.a c.args.b c.args.made.now c.loop-at.at gates first second xs ys c.requires.cursor.within c.loop-at.invariant.near c.in_default.is eo ea eb within s
