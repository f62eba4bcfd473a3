use Rattle.std.proofs.Common.{◌≡◌, ℕ, ◌-◌, ◌∙◌, true, subst, arith}
use Rattle.std.specs.Prelude.{IfSome, Option}
use Rattle.rv_links.specs.Nodes.{live}
use Rattle.rv_links.proofs.inside.WindowLemmas.{window_start, window_step, window_end, window_full, come_next, live_after}
use Rattle.rv_links.proofs.linked.Linked.window_size.Goals as goal

pub loop-i-init : goal.loop-i-init
loop-i-init c = record { live = c.requires; small = omega arith; ahead = window_start _ _ _ }

pub returns-in-None-clause-gates : goal.returns-in-None-clause-gates
returns-in-None-clause-gates c = (window_end _ _ _ _ _ _ c.in-None.is c.loop-i.invariant.ahead).0

pub returns-in-None-clause-lines : goal.returns-in-None-clause-lines
returns-in-None-clause-lines c = (window_end _ _ _ _ _ _ c.in-None.is c.loop-i.invariant.ahead).1

pub loop-i-preserved : goal.loop-i-preserved
loop-i-preserved c =
    let on : live c.in-Some.node c.args.self.now.nodes ≡ true = subst (λ (o : Option ℕ). IfSome o (λ a. live a c.args.self.now.nodes ≡ true)) c.in-Some.is c.loop-i.invariant.live in
    let s = c.incidence.ensures.small in
    let f = c.from-sum.ensures in
    let k = c.loop-i.invariant.small in
    record {
      live = live_after _ _ _ c.recall_invariant.ensures.once c.next-at.ensures;
      small = omega arith;
      ahead = window_step _ _ _ _ _ _ _ _ _ (omega arith) (come_next _ _ _ _ _ c.recall_invariant.ensures.once on c.next-at.ensures c.gate-gate.ensures c.in-Some.is) (c.from-sum.ensures ∙ c.incidence.ensures.is) c.loop-i.invariant.ahead;
    }

pub returns-clause-gates : goal.returns-clause-gates
returns-clause-gates c =
    let e : c.args.count - c.loop-i.i ≡ 0 = omega arith in
    let i : c.loop-i.i ≡ c.args.count = omega arith in
    omega (arith, (window_full _ _ _ _ _ _ e c.loop-i.invariant.ahead).0)

pub returns-clause-lines : goal.returns-clause-lines
returns-clause-lines c =
    let e : c.args.count - c.loop-i.i ≡ 0 = omega arith in
    (window_full _ _ _ _ _ _ e c.loop-i.invariant.ahead).1
