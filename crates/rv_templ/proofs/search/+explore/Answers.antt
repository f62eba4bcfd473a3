use Rattle.std.proofs.Common.{ℕ, ◌-◌, ◌<◌, List, Bool, set, sym, ◌∙◌, ap, arith, refl}
use Rattle.rv_gate.specs.declared.word.TheConstants.{MOST_LINES}
use Rattle.rv_gate.specs.Word.{has}
use Rattle.rv_templ.specs.Images.{turned, allowed}
use Rattle.rv_templ.proofs.inside.AlikeLines.{alike_none, first_only}
use Rattle.rv_gate.proofs.FirstAnswer.{first_skip, first_end, none_first}
use Rattle.rv_templ.proofs.WindowLaws.{turned_template, length-turned}
use Rattle.rv_templ.proofs.inside.PruningLaws.{whole_on, whole_off, on_with, level_start, level_down, none_dead, drop_span}
use Rattle.rv_templ.proofs.search.+explore.Goals as goal

pub returns-then-passes : goal.returns-then-passes
returns-then-passes t c =
    whole_on (allowed c.args.window.now (turned c.args.r c.args.template.now)) c.args.to c.args.depth c.requires.six c.if-depth-eq-TEMPLATE_LINES.true (sym c.allowed-passes.ensures ∙ c.if-passes.true)

pub returns-then-depth-eq-TEMPLATE_LINES : goal.returns-then-depth-eq-TEMPLATE_LINES
returns-then-depth-eq-TEMPLATE_LINES t c =
    whole_off (allowed c.args.window.now (turned c.args.r c.args.template.now)) c.args.to c.args.depth c.requires.six c.if-depth-eq-TEMPLATE_LINES.true (sym c.allowed-passes.ensures ∙ c.if-passes.false)

pub loop-v-init : goal.loop-v-init
loop-v-init t c =
    let h : c.args.depth < 6 = omega (arith, c.requires.depth) in
    level_start (allowed c.args.window.now (turned c.args.r c.args.template.now)) c.args.to c.args.depth h

pub returns-then-may : goal.returns-then-may
returns-then-may t c =
    let ok : List ℕ → Bool = allowed c.args.window.now (turned c.args.r c.args.template.now) in
    let h : c.args.depth < 6 = omega (arith, c.requires.depth) in
    first_only ok c.args.to c.args.depth c.loop-v.v c.explore.result c.loop-v-test.true
    (c.explore.ensures ∙ level_down ok c.args.to (set c.args.to c.args.depth c.loop-v.v) c.args.depth c.loop-v.v c.requires.six h refl)
    (λ u lt none.
    alike_none c.args.window.now (turned c.args.r c.args.template.now) c.args.to c.args.depth c.loop-v.v u
    (turned_template c.args.r c.args.template.now c.requires.template) c.requires.some (omega (arith, c.requires.room, length-turned c.args.r c.args.template.now))
    c.requires.six h c.requires.lines c.loop-v-test.true lt (c.can_take-may.ensures.suits c.if-may.true) none)
    ∙ c.loop-v.invariant

pub loop-v-preserved : goal.loop-v-preserved
loop-v-preserved t c =
    let ok : List ℕ → Bool = allowed c.args.window.now (turned c.args.r c.args.template.now) in
    first_skip (on_with ok c.args.to c.args.depth) c.loop-v.v MOST_LINES _ c.loop-v-test.true
    (none_dead c.args.window.now (turned c.args.r c.args.template.now) _ _ (c.can_take-may.ensures.dropped c.if-may.false)) c.loop-v.invariant

pub returns : goal.returns
returns t c =
    let ok : List ℕ → Bool = allowed c.args.window.now (turned c.args.r c.args.template.now) in
    sym (first_end (on_with ok c.args.to c.args.depth) c.loop-v.v MOST_LINES c.loop-v-test.false) ∙ c.loop-v.invariant

pub returns-then-past : goal.returns-then-past
returns-then-past t c =
    let ok : List ℕ → Bool = allowed c.args.window.now (turned c.args.r c.args.template.now) in
    sym (none_first (on_with ok c.args.to c.args.depth) c.loop-v.v (MOST_LINES - c.loop-v.v) (λ u from below.
    none_dead c.args.window.now (turned c.args.r c.args.template.now) _ _
    (drop_span c.args.window.now (turned c.args.r c.args.template.now) c.args.to c.args.depth u (turned_template c.args.r c.args.template.now c.requires.template)
    (omega (arith, c.requires.room, length-turned c.args.r c.args.template.now)) c.requires.six (omega (arith, c.requires.depth))
    (ap (λ s. has s c.args.depth) (sym c.requires.own) ∙ c.is_past-past.ensures.own c.if-past.true)
    (ap (λ s. has s u) (sym c.requires.touched) ∙ c.is_past-past.ensures.past c.if-past.true u from))))
    ∙ c.loop-v.invariant
