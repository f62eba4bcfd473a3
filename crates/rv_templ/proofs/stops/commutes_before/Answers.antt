use Rattle.std.proofs.Common.{sym, ◌∙◌, arith}
use Rattle.rv_templ.proofs.inside.LookupLaws.{walk_first, walk_skip, fewer_left}
use Rattle.rv_templ.proofs.stops.commutes_before.Goals as goal

pub returns-then-commutes_with_all : goal.returns-then-commutes_with_all
returns-then-commutes_with_all c _ id on lt = c.commutes_with_all.ensures c.if-commutes_with_all.true id on

pub loop-at-init : goal.loop-at-init
loop-at-init c = walk_first _ _ _ c.recall_invariant.ensures.rising c.first-at.ensures

pub number-number-requires : goal.number-number-requires
number-number-requires c = let w = rw c.in-Some.is at c.loop-at.invariant in w.on.0

pub gate-requires : goal.gate-requires
gate-requires c = let w = rw c.in-Some.is at c.loop-at.invariant in w.on.0

pub next_to_ask-at-requires : goal.next_to_ask-at-requires
next_to_ask-at-requires c = let w = rw c.in-Some.is at c.loop-at.invariant in w.on.0

pub returns-then-number-end : goal.returns-then-number-end
returns-then-number-end c _ id on lt =
    let w = rw c.in-Some.is at c.loop-at.invariant in
    w.passed id on (omega arith) (omega (arith, lt, c.number-end.ensures.value, c.number-number.ensures.value, c.if-number-end.true))

pub loop-at-smaller : goal.loop-at-smaller
loop-at-smaller c = fewer_left _ _ _ _ c.in-Some.is (omega (arith, c.number-number.ensures.value, c.number-number.ensures.few)) c.next_to_ask-at.ensures.later

pub loop-at-preserved : goal.loop-at-preserved
loop-at-preserved c =
    let w = rw c.in-Some.is at c.loop-at.invariant in
    walk_skip _ _ _ _ _ _ w (λ x h. h) (rw (← c.gate.ensures) (sym c.passes-free.ensures ∙ c.if-not-free.false)) c.next_to_ask-at.ensures.later c.next_to_ask-at.ensures.free

pub returns : goal.returns
returns c _ id on lt = let w = rw c.in_default.is at c.loop-at.invariant in w.passed id on (omega arith) tt
