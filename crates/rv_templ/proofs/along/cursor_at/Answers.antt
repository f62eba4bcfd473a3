use Rattle.rv_templ.proofs.inside.CursorLaws.{live_here, cursor_here}
use Rattle.rv_templ.proofs.along.cursor_at.Goals as goal

pub prev-requires : goal.prev-requires
prev-requires c = live_here c.args.linked.now.nodes c.args.place c.args.node c.requires

pub returns-clause-cursor : goal.returns-clause-cursor
returns-clause-cursor c = cursor_here c.args.linked.now.nodes c.args.place c.args.node c.prev.result c.recall_invariant.ensures.once c.requires c.prev.ensures
