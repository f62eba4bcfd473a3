use Rattle.rv_cmd.proofs.inside.Made.{makes-one, refused-one, unread-one}
use Rattle.rv_cmd.proofs.making.made_of_one.Goals as goal

pub returns-in-Ok-make : goal.returns-in-Ok-make
returns-in-Ok-make g c =
    makes-one _ (g.C.OneInput.report c.args.command.now) (g.C.OneInput.Means c.args.command.now) c.args.name.now
    (g.F.Files.view c.args.files.now) (g.F.Files.view c.read_one.new.files) c.in-Ok.object c.in-Ok-make.product c.alike.result c.alike.ensures
    c.read_one.ensures.keeps c.in-Ok.ensures.read c.in-Ok-make.ensures.made

pub returns-in-Ok : goal.returns-in-Ok
returns-in-Ok g c =
    refused-one _ (g.C.OneInput.report c.args.command.now) (g.C.OneInput.Means c.args.command.now) c.args.name.now
    (g.F.Files.view c.args.files.now) (g.F.Files.view c.read_one.new.files) c.in-Ok.object c.in-Err-make.refusal c.unmade.result c.unmade.ensures
    c.read_one.ensures.keeps c.in-Ok.ensures.read c.in-Err-make.ensures.unmade

pub returns : goal.returns
returns g c =
    unread-one _ (g.C.OneInput.report c.args.command.now) (g.C.OneInput.Means c.args.command.now) c.args.name.now
    (g.F.Files.view c.args.files.now) (g.F.Files.view c.read_one.new.files) c.in-Err.unmade c.read_one.ensures.keeps c.in-Err.ensures.unread
