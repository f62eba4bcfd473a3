use Rattle.std.proofs.Common.{ap, sym, ◌∙◌, inr, refl, arith}
use Rattle.std.proofs.lemmas.Bool.{eqb-true, or_parts}
use Rattle.rv_links.specs.Order.{next_in}
use Rattle.rv_links.specs.Nodes.{live, ids_in}
use Rattle.rv_templ.proofs.inside.ForgetWalks.{loose_still}
use Rattle.rv_templ.proofs.inside.LookupLaws.{walk_first, walk_on}
use Rattle.rv_templ.proofs.inside.LinkedWindows.{shorter_next}
use Rattle.rv_templ.proofs.inside.NoteLaws.{fewer_on}
use Rattle.rv_templ.proofs.notes.forget_along.Goals as goal

pub loop-at-init : goal.loop-at-init
loop-at-init c = record {
  frame = refl;
  nodes = refl;
  fewer = λ id. inr refl;
  same = λ _. refl;
  loose = walk_first _ _ _ c.recall_invariant.ensures.rising c.first-at.ensures;
}

pub returns-then-eq-clause-loose : goal.returns-then-eq-clause-loose
returns-then-eq-clause-loose c x on lt =
    let w = rw c.in-Some.is at c.loop-at.invariant.loose in
    w.passed x on (omega arith) (omega (arith, lt, eqb-true c.in-Some.node c.args.b (sym c.eq.ensures ∙ c.if-eq.true)))

pub forget_if_joined-went-requires : goal.forget_if_joined-went-requires
forget_if_joined-went-requires c = let w = rw c.in-Some.is at c.loop-at.invariant.loose in ap (live c.in-Some.node) c.loop-at.invariant.nodes ∙ w.on.0

pub next-at-requires : goal.next-at-requires
next-at-requires c =
    let w = rw c.in-Some.is at c.loop-at.invariant.loose in
    ap (live c.in-Some.node) (c.forget_if_joined-went.ensures.nodes ∙ c.loop-at.invariant.nodes) ∙ w.on.0

pub loop-at-smaller : goal.loop-at-smaller
loop-at-smaller c =
    let w = rw c.in-Some.is at c.loop-at.invariant.loose in
    shorter_next _ _ _ _ c.recall_invariant.ensures.once w.on.0 (c.next-at.ensures ∙ ap (λ l. next_in c.in-Some.node (ids_in l)) (c.forget_if_joined-went.ensures.nodes ∙ c.loop-at.invariant.nodes)) c.in-Some.is

pub loop-at-preserved : goal.loop-at-preserved
loop-at-preserved c =
    let nodes = c.forget_if_joined-went.ensures.nodes ∙ c.loop-at.invariant.nodes in
    record {
      frame = c.forget_if_joined-went.ensures.frame ∙ c.loop-at.invariant.frame;
      nodes = nodes;
      fewer = fewer_on c.args.linked.now.notes c.loop-at.linked.notes c.forget_if_joined-went.new.linked.notes c.loop-at.invariant.fewer c.forget_if_joined-went.ensures.fewer;
      same = λ e. let p = or_parts c.loop-at.gone c.forget_if_joined-went.result e in c.forget_if_joined-went.ensures.same p.1 ∙ c.loop-at.invariant.same p.0;
      loose = let w = rw c.in-Some.is at c.loop-at.invariant.loose in
          walk_on _ _ _ _ _ _ c.recall_invariant.ensures.rising c.recall_invariant.ensures.once w (λ x. loose_still _ _ _ _ x c.forget_if_joined-went.ensures.fewer)
          (rw c.loop-at.invariant.nodes at c.forget_if_joined-went.ensures.here) (c.next-at.ensures ∙ ap (λ l. next_in c.in-Some.node (ids_in l)) nodes);
    }

pub returns-clause-loose : goal.returns-clause-loose
returns-clause-loose c x on lt = let w = rw c.in_default.is at c.loop-at.invariant.loose in w.passed x on (omega arith) tt
