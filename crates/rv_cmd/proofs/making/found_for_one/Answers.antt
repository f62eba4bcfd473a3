use Rattle.rv_cmd.proofs.inside.Made.{finds-one, finds-refused, finds-unread}
use Rattle.rv_cmd.specs.Row.{always}
use Rattle.rv_cmd.proofs.making.found_for_one.Goals as goal

pub returns-in-Ok-find : goal.returns-in-Ok-find
returns-in-Ok-find g c =
    finds-one _ (g.C.OneSearch.limits c.args.command.now) always (g.C.OneSearch.Means c.args.command.now) c.args.name.now
    (g.F.Files.view c.args.files.now) (g.F.Files.view c.read_one.new.files) c.in-Ok.object c.in-Ok-find.product c.alike.result c.alike.ensures
    c.read_one.ensures.keeps c.in-Ok.ensures.read c.in-Ok-find.ensures.made

pub returns-in-Ok : goal.returns-in-Ok
returns-in-Ok g c =
    finds-refused _ (g.C.OneSearch.limits c.args.command.now) always (g.C.OneSearch.Means c.args.command.now) c.args.name.now
    (g.F.Files.view c.args.files.now) (g.F.Files.view c.read_one.new.files) c.in-Ok.object c.in-Err-find.refusal c.unmade.result c.unmade.ensures
    c.read_one.ensures.keeps c.in-Ok.ensures.read c.in-Err-find.ensures.unmade

pub returns : goal.returns
returns g c =
    finds-unread _ (g.C.OneSearch.limits c.args.command.now) always (g.C.OneSearch.Means c.args.command.now) c.args.name.now
    (g.F.Files.view c.args.files.now) (g.F.Files.view c.read_one.new.files) c.in-Err.unmade c.read_one.ensures.keeps c.in-Err.ensures.unread
