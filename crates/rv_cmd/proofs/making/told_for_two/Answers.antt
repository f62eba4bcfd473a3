use Rattle.rv_cmd.proofs.inside.Made.{tells-refused, tells-two, tells-unread}
use Rattle.rv_cmd.proofs.making.told_for_two.Goals as goal

pub returns-in-Ok-tell : goal.returns-in-Ok-tell
returns-in-Ok-tell g c =
    tells-two _ _ (g.C.TwoSearch.limits c.args.command.now) (g.C.TwoSearch.differs c.args.command.now) (g.C.TwoSearch.Lacks c.args.command.now) (g.C.TwoSearch.Means c.args.command.now) c.args.first.now c.args.second.now
    (g.F.Files.view c.args.files.now) (g.F.Files.view c.read_two.new.files) c.in-Ok.object c.in-Ok.other c.in-Ok-tell.made
    c.read_two.ensures.keeps c.in-Ok.ensures.read c.in-Ok-tell.ensures.made c.in-Ok-tell.ensures.differs

pub returns-in-Ok : goal.returns-in-Ok
returns-in-Ok g c =
    tells-refused _ _ (g.C.TwoSearch.limits c.args.command.now) (g.C.TwoSearch.differs c.args.command.now) (g.C.TwoSearch.Lacks c.args.command.now) (g.C.TwoSearch.Means c.args.command.now) c.args.first.now c.args.second.now
    (g.F.Files.view c.args.files.now) (g.F.Files.view c.read_two.new.files) c.in-Ok.object c.in-Ok.other c.in-Err-tell.refusal c.unmade.result c.unmade.ensures
    c.read_two.ensures.keeps c.in-Ok.ensures.read c.in-Err-tell.ensures.unmade

pub returns : goal.returns
returns g c =
    tells-unread _ _ (g.C.TwoSearch.limits c.args.command.now) (g.C.TwoSearch.differs c.args.command.now) (g.C.TwoSearch.Lacks c.args.command.now) (g.C.TwoSearch.Means c.args.command.now) c.args.first.now c.args.second.now
    (g.F.Files.view c.args.files.now) (g.F.Files.view c.read_two.new.files) c.in-Err.unmade c.read_two.ensures.keeps c.in-Err.ensures.unread
