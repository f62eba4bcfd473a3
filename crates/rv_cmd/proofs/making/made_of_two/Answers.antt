use Rattle.rv_cmd.proofs.inside.Made.{makes-two, refused-two, unread-two}
use Rattle.rv_cmd.proofs.making.made_of_two.Goals as goal

pub returns-in-Ok-make : goal.returns-in-Ok-make
returns-in-Ok-make g c =
    makes-two _ _ (g.C.TwoInputs.report c.args.command.now) (g.C.TwoInputs.differs c.args.command.now) (g.C.TwoInputs.Lacks c.args.command.now) (g.C.TwoInputs.Means c.args.command.now) c.args.first.now c.args.second.now
    (g.F.Files.view c.args.files.now) (g.F.Files.view c.read_two.new.files) c.in-Ok.object c.in-Ok.other c.in-Ok-make.made
    c.read_two.ensures.keeps c.in-Ok.ensures.read c.in-Ok-make.ensures.made c.in-Ok-make.ensures.differs

pub returns-in-Ok : goal.returns-in-Ok
returns-in-Ok g c =
    refused-two _ _ (g.C.TwoInputs.report c.args.command.now) (g.C.TwoInputs.differs c.args.command.now) (g.C.TwoInputs.Lacks c.args.command.now) (g.C.TwoInputs.Means c.args.command.now) c.args.first.now c.args.second.now
    (g.F.Files.view c.args.files.now) (g.F.Files.view c.read_two.new.files) c.in-Ok.object c.in-Ok.other c.in-Err-make.refusal c.unmade.result c.unmade.ensures
    c.read_two.ensures.keeps c.in-Ok.ensures.read c.in-Err-make.ensures.unmade

pub returns : goal.returns
returns g c =
    unread-two _ _ (g.C.TwoInputs.report c.args.command.now) (g.C.TwoInputs.differs c.args.command.now) (g.C.TwoInputs.Lacks c.args.command.now) (g.C.TwoInputs.Means c.args.command.now) c.args.first.now c.args.second.now
    (g.F.Files.view c.args.files.now) (g.F.Files.view c.read_two.new.files) c.in-Err.unmade c.read_two.ensures.keeps c.in-Err.ensures.unread
