use Rattle.std.proofs.Common.{[], ◌∷◌, ap, ◌∙◌}
use Rattle.rv_real.specs.Text.{name_at}
use Rattle.rv_cmd.specs.Names.{names_read}
use Rattle.rv_cmd.proofs.inside.Made.{makes-at}
use Rattle.rv_cmd.proofs.inside.Naming.{names-two}
use Rattle.rv_cmd.proofs.making.told_of_two.Goals as goal

pub returns : goal.returns
returns g c =
    let names = names_read c.args.settings.now in
    makes-at _ _ names (g.F.Files.view c.args.files.now) (g.F.Files.view c.told_for_two.new.files) c.told_for_two.result
    (ap (λ name. name ∷ c.name_of-2.result.now ∷ []) c.name_of.ensures ∙ ap (λ name. name_at names 0 ∷ name ∷ []) c.name_of-2.ensures ∙ names-two names c.requires) c.told_for_two.ensures
