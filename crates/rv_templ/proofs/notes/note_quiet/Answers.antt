use Rattle.std.proofs.Common.{arith}
use Rattle.rv_templ.proofs.inside.NoteLaws.{quiet_more}
use Rattle.rv_templ.proofs.inside.PairWalk.{made_right}
use Rattle.rv_templ.proofs.notes.note_quiet.Goals as goal

pub returns-clause-right : goal.returns-clause-right
returns-clause-right c =
    made_right c.args.linked.now.nodes c.args.linked.now.notes c.set_note.new.self.notes c.args.node c.note_for-note.result.0 c.args.far c.max.result c.recall_invariant.ensures.once c.requires.live c.set_note.ensures.here c.set_note.ensures.others
    (quiet_more _ _ _ c.note_for-note.result.1 c.max.result (omega (arith, c.max.ensures)) c.note_for-note.ensures.quiet) c.requires.right (omega (arith, c.max.ensures))
