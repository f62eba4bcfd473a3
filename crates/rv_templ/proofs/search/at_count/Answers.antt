use Rattle.std.proofs.Common.{length, sym, ◌∙◌, arith}
use Rattle.rv_templ.specs.inside.Library.{templates_in}
use Rattle.rv_templ.specs.Choices.{at_template}
use Rattle.rv_gate.proofs.FirstAnswer.{first_hit, first_skip, first_end}
use Rattle.rv_templ.proofs.inside.ChoiceLemmas.{length-templates}
use Rattle.rv_templ.proofs.search.at_count.Goals as goal

pub returns-in-Some : goal.returns-in-Some
returns-in-Some c =
    first_hit (at_template c.args.window.now (templates_in c.args.templates.now)) c.loop-t.t (length (templates_in c.args.templates.now)) _ c.in-Some.found
    (omega (arith, c.loop-t-test.true, length-templates c.args.templates.now)) (sym c.in-Some.ensures) c.loop-t.invariant

pub loop-t-preserved : goal.loop-t-preserved
loop-t-preserved c =
    first_skip (at_template c.args.window.now (templates_in c.args.templates.now)) c.loop-t.t (length (templates_in c.args.templates.now)) _
    (omega (arith, c.loop-t-test.true, length-templates c.args.templates.now)) (sym c.in_default.ensures) c.loop-t.invariant

pub returns : goal.returns
returns c =
    sym (first_end (at_template c.args.window.now (templates_in c.args.templates.now)) c.loop-t.t (length (templates_in c.args.templates.now)) (omega (arith, c.loop-t-test.false, length-templates c.args.templates.now)))
    ∙ c.loop-t.invariant
