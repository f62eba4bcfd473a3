use Rattle.std.proofs.Common.{[], ◌∷◌, ap, subst, ◌∙◌}
use Rattle.rv_price.specs.declared.goal.Goal.{Goal}
use Rattle.rv_cmd.specs.Commands.Compute.{compute_row}
use Rattle.rv_cmd.specs.Names.{names_read}
use Rattle.rv_cmd.specs.Row.{ReadsFirst}
use Rattle.rv_cmd.specs.inside.Making.{Makes}
use Rattle.rv_cmd.proofs.inside.Made.{makes-at}
use Rattle.rv_cmd.proofs.inside.Naming.{names-one}
use Rattle.rv_cmd.proofs.commands.compute.compute.Goals as goal

pub returns : goal.returns
returns g c =
    let names = names_read c.args.settings.now in
    let s = c.args.settings.now in
    let By : ReadsFirst → Type 0 = λ row. Makes row names (g.F.Files.view c.args.files.now) (g.F.Files.view c.of_network.new.files) c.of_network.result in
    let row : Goal → ReadsFirst = λ asked. compute_row s.curve asked s.effort s.seed s.lines in
    subst By (ap row c.search_goal.ensures)
    (makes-at _ _ names (g.F.Files.view c.args.files.now) (g.F.Files.view c.of_network.new.files) c.of_network.result
    (ap (λ name. name ∷ []) c.name_of.ensures ∙ names-one names c.requires.input) c.of_network.ensures)
