use Rattle.std.proofs.Common.{[], ◌∷◌, ap, Ok, Err, ◌∙◌}
use Rattle.rv_inputs.specs.Formats.{circuit}
use Rattle.rv_cmd.specs.Commands.Draw.{IsDrawing, draw_report}
use Rattle.rv_cmd.specs.Names.{names_read}
use Rattle.rv_cmd.specs.Row.{one}
use Rattle.rv_cmd.proofs.inside.Made.{makes-at, makes-one, unread-one}
use Rattle.rv_cmd.proofs.inside.Naming.{names-one}
use Rattle.rv_cmd.proofs.commands.draw.circuit_drawn.Goals as goal

pub returns-in-Ok : goal.returns-in-Ok
returns-in-Ok g c =
    let s = c.args.settings.now in
    let old = g.F.Files.view c.args.files.now in
    let new = g.F.Files.view c.read_one.new.files in
    let report = draw_report s.picture s.wrap in
    let Means = IsDrawing s.picture s.wrap in
    makes-at (one circuit report Means) _ (names_read s) old new (Ok c.alike.result) (ap (λ name. name ∷ []) c.name_of.ensures ∙ names-one (names_read s) c.requires)
    (makes-one circuit report Means c.name_of.result.now old new c.in-Ok.circuit c.drawing.result c.alike.result c.alike.ensures c.read_one.ensures.keeps
    c.in-Ok.ensures.read c.drawing.ensures)

pub returns-in-Err : goal.returns-in-Err
returns-in-Err g c =
    let s = c.args.settings.now in
    let old = g.F.Files.view c.args.files.now in
    let new = g.F.Files.view c.read_one.new.files in
    let report = draw_report s.picture s.wrap in
    let Means = IsDrawing s.picture s.wrap in
    makes-at (one circuit report Means) _ (names_read s) old new (Err c.in-Err.unmade) (ap (λ name. name ∷ []) c.name_of.ensures ∙ names-one (names_read s) c.requires)
    (unread-one circuit report Means c.name_of.result.now old new c.in-Err.unmade c.read_one.ensures.keeps c.in-Err.ensures.unread)
