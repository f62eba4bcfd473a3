use Rattle.std.proofs.Common.{inl, inr, ◌∙◌, ap, sym}
use Rattle.std.specs.Prelude.{Some}
use Rattle.std.proofs.lemmas.Bool.{cases_lt}
use Rattle.std.proofs.lemmas.Option.{none-some}
use Rattle.rv_links.specs.Nodes.{node_gate}
use Rattle.rv_templ.proofs.inside.LinkedWindows.{shorter_next}
use Rattle.rv_templ.proofs.inside.LookupLaws.{stop_as, walk_after, walk_on}
use Rattle.rv_templ.proofs.inside.PartnerWalk.{partner_nowhere, partner_at, stopped}
use Rattle.rv_templ.proofs.pairs.partner_along.Goals as goal

pub loop-at-init : goal.loop-at-init
loop-at-init c = walk_after _ _ _ _ c.recall_invariant.ensures.rising c.recall_invariant.ensures.once c.requires.live c.next-at.ensures

pub returns-then-joins : goal.returns-then-joins
returns-then-joins c =
    let w = rw (c.in-Some.is, c.gate-gate.ensures) at c.loop-at.invariant in
    let j = rw (c.gate-gate.ensures, c.gate.ensures) at (c.joins-joins.ensures.some c.if-joins.true) in
    partner_at _ _ _ j.0 c.requires.live w.on.0 w.on.1 j.1
    (λ x l late k some. elim (cases_lt x c.in-Some.other) [ inl lt ↦ absurd (none-some k (sym (w.passed x l late lt) ∙ some)) | inr le ↦ le ])

pub returns-then-last : goal.returns-then-last
returns-then-last c =
    let nodes = c.args.linked.now.nodes in
    let w = rw (c.in-Some.is, c.gate-gate.ensures) at c.loop-at.invariant in
    let j = rw (c.gate-gate.ensures, c.gate.ensures) at (c.joins-joins.ensures.none c.if-joins.false) in
    let at = (stop_as nodes (node_gate c.args.node nodes) c.args.node c.args.stop (Some c.in-Some.other) (c.is_stop-last.ensures c.if-last.true ∙ ap Some c.number.ensures.value) c.requires.stop).at in
    stopped _ _ _ c.recall_invariant.ensures.rising c.recall_invariant.ensures.once c.requires.live w.on.0 w.on.1 (λ x l late soon. w.passed x l late soon) j at.3

pub loop-at-smaller : goal.loop-at-smaller
loop-at-smaller c =
    let w = rw c.in-Some.is at c.loop-at.invariant in
    shorter_next _ _ _ _ c.recall_invariant.ensures.once w.on.0 c.next-at-in-Some.ensures c.in-Some.is

pub loop-at-preserved : goal.loop-at-preserved
loop-at-preserved c =
    let w = rw c.in-Some.is at c.loop-at.invariant in
    walk_on _ _ _ _ _ _ c.recall_invariant.ensures.rising c.recall_invariant.ensures.once w (λ x h. h) (rw c.gate.ensures at (c.joins-joins.ensures.none c.if-joins.false)) c.next-at-in-Some.ensures

pub returns : goal.returns
returns c =
    let w = rw (c.in_default.is, c.gate-gate.ensures) at c.loop-at.invariant in
    partner_nowhere _ _ c.recall_invariant.ensures.rising c.recall_invariant.ensures.once c.requires.live (λ x l late. w.passed x l late tt)
