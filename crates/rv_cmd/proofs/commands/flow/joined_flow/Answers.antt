use Rattle.std.proofs.Common.{sym, subst}
use Rattle.rv_cmd.specs.Names.{names_read}
use Rattle.rv_cmd.specs.Row.{ReadsFirst}
use Rattle.rv_cmd.specs.inside.Making.{Makes}
use Rattle.rv_cmd.proofs.Laws.Flow.{joined-of-table}
use Rattle.rv_cmd.proofs.commands.flow.joined_flow.Goals as goal

pub returns-in_default : goal.returns-in_default
returns-in_default g c =
    let s = c.args.settings.now in
    let a = c.args.asked in
    let old = g.F.Files.view c.args.files.now in
    let new = g.F.Files.view c.found_of_one-in_default.new.files in
    let By : ReadsFirst → Type 0 = λ row. Makes row (names_read s) old new c.found_of_one-in_default.result in
    subst By (sym (joined-of-table s.origin a.method a.simplify a.aux c.in_default.not-Perm)) c.found_of_one-in_default.ensures
