use Rattle.std.proofs.Common.{sym, ◌∙◌}
use Rattle.rv_marks.proofs.inside.Row.{one_more, no_mark}
use Rattle.rv_marks.proofs.read.marks_of.Goals as goal

pub returns-in-None : goal.returns-in-None
returns-in-None g c = sym (no_mark g.M.RowMark.mark_of _ _ _ c.loop-byte-test.true (sym c.from_byte.ensures ∙ c.in-None.is) c.loop-byte.invariant)

pub loop-byte-preserved : goal.loop-byte-preserved
loop-byte-preserved g c =
    rw c.in_ok-push-in-Some.ensures.items (one_more g.M.RowMark.mark_of _ _ _ c.in-Some.mark c.loop-byte-test.true (sym c.from_byte.ensures ∙ c.in-Some.is) c.loop-byte.invariant)
