use Rattle.std.proofs.Common.{sym, ◌∙◌, arith}
use Rattle.rv_templ.proofs.inside.LookupLaws.{walk_skip, fewer_left}
use Rattle.rv_templ.proofs.stops.stop_of.Goals as goal

pub returns-then-commutes_with_all : goal.returns-then-commutes_with_all
returns-then-commutes_with_all c = record { free = λ x on lt before. rw (← c.gate-gate.ensures) (c.commutes_with_all.ensures c.if-commutes_with_all.true x on); at = tt }

pub loop-at-init : goal.loop-at-init
loop-at-init c = record { on = c.next_to_ask-at.ensures.later; passed = c.next_to_ask-at.ensures.free }

pub gate-requires : goal.gate-requires
gate-requires c = let w = rw c.in-Some.is at c.loop-at.invariant in w.on.0

pub number-number-requires : goal.number-number-requires
number-number-requires c = let w = rw c.in-Some.is at c.loop-at.invariant in w.on.0

pub next_to_ask-at-requires-in-Some : goal.next_to_ask-at-requires-in-Some
next_to_ask-at-requires-in-Some c = let w = rw c.in-Some.is at c.loop-at.invariant in w.on.0

pub returns-then-not-free : goal.returns-then-not-free
returns-then-not-free c =
    let w = rw (c.in-Some.is, c.gate-gate.ensures) at c.loop-at.invariant in
    rw c.number-number.ensures.value
    (record {
      free = w.passed;
      at = (w.on.0, w.on.1, omega (arith, c.number-number.ensures.value, c.number-number.ensures.few), rw (← c.gate.ensures, ← c.gate-gate.ensures) (sym c.passes-free.ensures ∙ c.if-not-free.true));
    })

pub loop-at-smaller : goal.loop-at-smaller
loop-at-smaller c = fewer_left _ _ _ _ c.in-Some.is (omega (arith, c.number-number.ensures.value, c.number-number.ensures.few)) c.next_to_ask-at-in-Some.ensures.later

pub loop-at-preserved : goal.loop-at-preserved
loop-at-preserved c =
    let w = rw c.in-Some.is at c.loop-at.invariant in
    walk_skip _ _ _ _ _ _ w (λ x h. h) (rw (← c.gate.ensures) (sym c.passes-free.ensures ∙ c.if-not-free.false)) c.next_to_ask-at-in-Some.ensures.later c.next_to_ask-at-in-Some.ensures.free

pub returns : goal.returns
returns c = let w = rw (c.in_default.is, c.gate-gate.ensures) at c.loop-at.invariant in record { free = w.passed; at = tt }
