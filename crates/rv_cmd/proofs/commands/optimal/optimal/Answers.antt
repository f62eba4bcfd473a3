use Rattle.std.proofs.Common.{[], ◌∷◌, ap, ◌∙◌}
use Rattle.rv_cmd.specs.Names.{names_read}
use Rattle.rv_cmd.proofs.inside.Made.{makes-at}
use Rattle.rv_cmd.proofs.inside.Naming.{names-one}
use Rattle.rv_cmd.proofs.commands.optimal.optimal.Goals as goal

pub returns : goal.returns
returns g c =
    let names = names_read c.args.settings.now in
    makes-at _ _ names (g.F.Files.view c.args.files.now) (g.F.Files.view c.found.new.files) c.found.result
    (ap (λ name. name ∷ []) c.name_of.ensures ∙ names-one names c.requires) c.found.ensures
