use Rattle.std.proofs.lemmas.Result.{IfErr-weaker, IfOk-weaker}
use Rattle.rv_inputs.specs.Formats.{format}
use Rattle.rv_inputs.proofs.One.{has_object, reads_one, unread_one}
use Rattle.rv_inputs.proofs.input.read_one.Goals as goal

pub returns-clause-keeps : goal.returns-clause-keeps
returns-clause-keeps g c =
    reads_one c.args.name.now (g.F.Files.view c.args.files.now) (g.F.Files.view c.read_input.new.files) c.read_input.ensures.keeps c.read_input.ensures.stays

pub returns-clause-read : goal.returns-clause-read
returns-clause-read g c =
    let form = format g.R.TextReader.denoted g.R.InputText.why in
    IfOk-weaker c.read_input.result _ _
    (λ object r. has_object form c.args.name.now (g.F.Files.view c.args.files.now) (g.F.Files.view c.read_input.new.files) object r) c.read_input.ensures.read

pub returns-clause-unread : goal.returns-clause-unread
returns-clause-unread g c =
    let form = format g.R.TextReader.denoted g.R.InputText.why in
    IfErr-weaker c.read_input.result _ _
    (λ unmade u. unread_one form c.args.name.now (g.F.Files.view c.args.files.now) (g.F.Files.view c.read_input.new.files) unmade u) c.read_input.ensures.unread
