use Rattle.std.proofs.Common.{◌∙◌, ap, subst, sym}
use Rattle.rv_faults.specs.Fault.{unmade_by}
use Rattle.rv_faults.specs.declared.fault.Unmade.{Unmade}
use Rattle.rv_inputs.specs.Formats.{format, refused_at}
use Rattle.rv_inputs.specs.Reading.{IsUnreadInput}
use Rattle.rv_inputs.proofs.One.{read_denoted, unread_refused}
use Rattle.rv_inputs.proofs.input.read_input.Goals as goal

pub returns-in-Ok-clause-read : goal.returns-in-Ok-clause-read
returns-in-Ok-clause-read g c =
    read_denoted g.R.TextReader.denoted g.R.InputText.why c.args.name.now (g.F.Files.view c.args.files.now) (g.F.Files.view c.read_file.new.files) c.in-Ok.object c.in-Ok.ensures.read

pub returns-in-Err-Refused-clause-unread : goal.returns-in-Err-Refused-clause-unread
returns-in-Err-Refused-clause-unread g c =
    let denoted = g.R.TextReader.denoted in
    let why = g.R.InputText.why in
    let name = c.args.name.now in
    let old = g.F.Files.view c.args.files.now in
    let new = g.F.Files.view c.read_file.new.files in
    let input = c.args.input in
    let P : Unmade → Type 0 = λ unmade. IsUnreadInput (format denoted why) input name old new unmade in
    subst P (sym (c.refused_at.ensures ∙ ap (λ w. unmade_by (refused_at input w)) c.why.ensures))
    (unread_refused denoted why g.R.TextReader.mem input name old new c.in-Err-Refused.fault g.met.R.InputText.why_mem (rw c.in-Err-Refused.field-0-is at c.in-Err-Refused.ensures.unread))
