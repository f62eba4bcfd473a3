use Rattle.std.proofs.Common.{sym, ◌∙◌, arith}
use Rattle.rv_templ.specs.inside.Library.{templates_in}
use Rattle.rv_templ.proofs.inside.ChoiceLemmas.{template_at, are_at, length-templates}
use Rattle.rv_templ.proofs.library.template_of.Goals as goal

pub returns-clause-value : goal.returns-clause-value
returns-clause-value c = c.as_slice.ensures.value ∙ sym (template_at c.args.templates.now c.args.t c.index-templates-t.result c.requires c.index-templates-t.is)

pub returns-clause-template : goal.returns-clause-template
returns-clause-template c are =
    rw (c.as_slice.ensures.value, ← template_at c.args.templates.now c.args.t c.index-templates-t.result c.requires c.index-templates-t.is)
    (are_at (templates_in c.args.templates.now) c.args.t are (omega (arith, c.requires, length-templates c.args.templates.now)))
