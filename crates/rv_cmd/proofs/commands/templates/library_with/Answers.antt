use Rattle.std.proofs.Common.{ap, sym, subst, ◌∙◌}
use Rattle.rv_faults.specs.declared.fault.Refusal.{Refusal}
use Rattle.rv_inputs.specs.Formats.{refused_at}
use Rattle.rv_cmd.specs.Commands.Templates.{no_template, template_limits}
use Rattle.rv_cmd.specs.inside.Products.{IsRefusalOf}
use Rattle.rv_cmd.proofs.Laws.Templates.{template-refused, template-taken}
use Rattle.rv_cmd.proofs.commands.templates.library_with.Goals as goal

pub returns-in-Ok-add-clause-kept : goal.returns-in-Ok-add-clause-kept
returns-in-Ok-add-clause-kept c =
    template-taken c.args.given.now c.add.result c.add.ensures.too_wide c.add.ensures.too_long c.add.ensures.not_toffoli c.add.ensures.not_identity c.in-Ok-add.field-0 c.in-Ok-add.is

pub returns-in-Err-add-clause-unmade : goal.returns-in-Err-add-clause-unmade
returns-in-Err-add-clause-unmade c =
    let given = c.args.given.now in
    let Refuses : Refusal → Type 0 = λ refusal. IsRefusalOf 2 (template_limits given) refusal in
    subst Refuses (sym (c.no_template.ensures ∙ ap (λ lines. refused_at 1 (no_template lines c.in-Err-add.fault)) c.line_count.ensures.value))
    (template-refused given c.add.result c.add.ensures.too_wide c.add.ensures.too_long c.add.ensures.not_toffoli c.add.ensures.not_identity c.in-Err-add.fault c.in-Err-add.is)
