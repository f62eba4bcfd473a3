use Rattle.std.proofs.Common.{length, sym, ◌∙◌, ap, arith}
use Rattle.std.specs.Prelude.{count_ones}
use Rattle.rv_gate.specs.FirstAnswer.{first}
use Rattle.rv_gate.proofs.FirstAnswer.{first_hit, first_skip, first_end, first_start}
use Rattle.rv_templ.specs.Choices.{at_turn}
use Rattle.rv_templ.specs.Images.{span}
use Rattle.rv_templ.specs.inside.Library.{templates_in}
use Rattle.rv_templ.proofs.inside.ChoiceLemmas.{too_short, too_long, turns_of, turn_found}
use Rattle.rv_templ.proofs.inside.VariedLines.{none_wide}
use Rattle.rv_templ.proofs.search.at_template.Goals as goal

pub returns-then-template-count : goal.returns-then-template-count
returns-then-template-count c = sym (too_short c.args.window.now (templates_in c.args.templates.now) c.args.t (omega (arith, ap length c.template_of-template.ensures.value, c.if-template-count.true)))

pub returns-then-template-count-2 : goal.returns-then-template-count-2
returns-then-template-count-2 c = sym (too_long c.args.window.now (templates_in c.args.templates.now) c.args.t (omega (arith, ap length c.template_of-template.ensures.value, c.if-template-count-2.true)))

pub returns-then-own-vary : goal.returns-then-own-vary
returns-then-own-vary c =
    let e = c.template_of-template.ensures.value in
    sym (none_wide c.args.window.now (templates_in c.args.templates.now) c.args.t (rw (← e) (c.template_of-template.ensures.template c.requires.templates)) c.requires.some
    (omega (arith, ap length e, c.if-template-count.false)) (omega (arith, ap length e, c.if-template-count-2.false))
    (omega (arith, ap (λ g. count_ones (span g)) e, ap count_ones c.span-own.ensures, ap count_ones c.requires.vary, c.if-own-vary.true)))

pub loop-r-init : goal.loop-r-init
loop-r-init c =
    let e = c.template_of-template.ensures.value in
    first_start (at_turn c.args.window.now c.template_of-template.result.now c.args.t) (length c.template_of-template.result.now)
    ∙ ap (λ x. first (at_turn c.args.window.now x c.args.t) 0 (length x)) e
    ∙ sym (turns_of c.args.window.now (templates_in c.args.templates.now) c.args.t (omega (arith, ap length e, c.if-template-count.false)) (omega (arith, ap length e, c.if-template-count-2.false)))

pub returns-in-Some : goal.returns-in-Some
returns-in-Some c =
    first_hit (at_turn c.args.window.now c.template_of-template.result.now c.args.t) c.loop-r.r (length c.template_of-template.result.now) _ _ c.loop-r-test.true
    (turn_found c.args.window.now c.template_of-template.result.now c.args.t c.loop-r.r _ c.in-Some.ensures) c.loop-r.invariant

pub loop-r-preserved : goal.loop-r-preserved
loop-r-preserved c =
    first_skip (at_turn c.args.window.now c.template_of-template.result.now c.args.t) c.loop-r.r (length c.template_of-template.result.now) _ c.loop-r-test.true
    (turn_found c.args.window.now c.template_of-template.result.now c.args.t c.loop-r.r _ c.in_default.ensures) c.loop-r.invariant

pub returns : goal.returns
returns c = sym (first_end (at_turn c.args.window.now c.template_of-template.result.now c.args.t) c.loop-r.r (length c.template_of-template.result.now) c.loop-r-test.false) ∙ c.loop-r.invariant
