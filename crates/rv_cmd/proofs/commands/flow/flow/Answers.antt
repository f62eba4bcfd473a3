use Rattle.std.proofs.Common.{sym, subst}
use Rattle.rv_flow.specs.declared.synthesis.Synthesis.{Synthesis}
use Rattle.rv_cmd.specs.Commands.Flow.{flow_synthesis, joined_row, ruled_row}
use Rattle.rv_cmd.specs.Names.{names_read}
use Rattle.rv_cmd.specs.Row.{ReadsFirst}
use Rattle.rv_cmd.specs.inside.Making.{Makes}
use Rattle.rv_cmd.proofs.Laws.Flow.{flow-by-rule}
use Rattle.rv_cmd.proofs.commands.flow.flow.Goals as goal

pub returns-in_default : goal.returns-in_default
returns-in_default g c =
    let s = c.args.settings.now in
    let old = g.F.Files.view c.args.files.now in
    let new = g.F.Files.view c.ruled_flow.new.files in
    let By : ReadsFirst → Type 0 = λ row. Makes row (names_read s) old new c.ruled_flow.result in
    let At : Synthesis → Type 0 = λ m. By (ruled_row s.origin m s.simplify s.blocks s.aux) in
    subst By (sym (flow-by-rule s.origin (flow_synthesis s.method) s.simplify s.blocks s.aux c.in_default.not-Joined))
    (subst At c.flow_synthesis.ensures c.ruled_flow.ensures)
