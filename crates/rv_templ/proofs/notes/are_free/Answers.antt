use Rattle.std.proofs.Common.{◌∙◌}
use Rattle.rv_templ.proofs.inside.LinkedPairs.{first_live, second_live, first_is, second_is}
use Rattle.rv_templ.proofs.inside.NotesAfter.{free_passes}
use Rattle.rv_templ.proofs.notes.are_free.Goals as goal

pub gate-requires : goal.gate-requires
gate-requires c = first_live _ _ _ c.requires

pub gate-requires-2 : goal.gate-requires-2
gate-requires-2 c = second_live _ _ _ c.requires

pub commutes_before-requires : goal.commutes_before-requires
commutes_before-requires c = second_live _ _ _ c.requires

pub commutes_before-requires-2 : goal.commutes_before-requires-2
commutes_before-requires-2 c = second_live _ _ _ c.requires

pub returns-clause-first : goal.returns-clause-first
returns-clause-first c on m =
    let i = c.recall_invariant.ensures in
    free_passes _ _ _ m _ _ i.rising i.once (c.gate.ensures ∙ first_is _ _ _ m i.once) (c.commutes_before.ensures c.if-not-commutes_before.false)

pub returns-clause-second : goal.returns-clause-second
returns-clause-second c on m =
    let i = c.recall_invariant.ensures in
    free_passes _ _ _ m _ _ i.rising i.once (c.gate-2.ensures ∙ second_is _ _ _ m i.once) (c.commutes_before-2.ensures on)
