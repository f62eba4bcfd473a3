use Rattle.std.proofs.Common.{[], ◌∷◌, ap, sym, subst, ◌∙◌}
use Rattle.rv_words.specs.declared.command.Form.TheVariants as form
use Rattle.rv_price.specs.declared.goal.Goal.{Goal}
use Rattle.rv_cmd.specs.Commands.Realize.{realize_row}
use Rattle.rv_cmd.specs.Names.{names_read}
use Rattle.rv_cmd.specs.Row.{ReadsFirst}
use Rattle.rv_cmd.specs.inside.Making.{Makes}
use Rattle.rv_cmd.proofs.Laws.Realize.{of-table}
use Rattle.rv_cmd.proofs.inside.Made.{makes-at}
use Rattle.rv_cmd.proofs.inside.Naming.{names-one}
use Rattle.rv_cmd.proofs.commands.realize.realize.Goals as goal

pub returns-in-Perm : goal.returns-in-Perm
returns-in-Perm g c =
    let names = names_read c.args.settings.now in
    rw c.in-Perm.is
    (makes-at _ _ names (g.F.Files.view c.args.files.now) (g.F.Files.view c.in_place.new.files) c.in_place.result
    (ap (λ name. name ∷ []) c.name_of-name.ensures ∙ names-one names c.requires.input) c.in_place.ensures)

pub returns-in_default : goal.returns-in_default
returns-in_default g c =
    let names = names_read c.args.settings.now in
    let s = c.args.settings.now in
    let By : ReadsFirst → Type 0 = λ row. Makes row names (g.F.Files.view c.args.files.now) (g.F.Files.view c.of_table.new.files) c.of_table.result in
    let row : Goal → ReadsFirst = λ asked. realize_row s.origin s.curve asked s.seed s.lines in
    subst By (sym (of-table s.origin s.curve c.search_goal.result s.seed s.lines c.in_default.not-Perm) ∙ ap row c.search_goal.ensures)
    (makes-at _ _ names (g.F.Files.view c.args.files.now) (g.F.Files.view c.of_table.new.files) c.of_table.result
    (ap (λ name. name ∷ []) c.name_of-name.ensures ∙ names-one names c.requires.input) c.of_table.ensures)
