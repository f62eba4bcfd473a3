use Rattle.std.proofs.Common.{length, ap, sym, ◌∙◌}
use Rattle.rv_perm.proofs.inside.Tables.{lines_for-some}
use Rattle.rv_perm.proofs.inside.Ends.{row_fits, images_checked-lines, kept_all}
use Rattle.rv_perm.proofs.end.end_of.Goals as goal

pub with_lines-requires-clause-some : goal.with_lines-requires-clause-some
with_lines-requires-clause-some c = (lines_for-some c.state.inside.count c.in-Some.lines (sym c.in-Some.ensures)).0

pub with_lines-requires-clause-few : goal.with_lines-requires-clause-few
with_lines-requires-clause-few c = (lines_for-some c.state.inside.count c.in-Some.lines (sym c.in-Some.ensures)).1

pub with_lines-requires-clause-count : goal.with_lines-requires-clause-count
with_lines-requires-clause-count c = ap length c.deref.ensures.value ∙ kept_all _ c.in-Some.lines c.state.invariant (sym c.in-Some.ensures)

pub marked-requires-clause-constants : goal.marked-requires-clause-constants
marked-requires-clause-constants c =
    rw (images_checked-lines c.in-Some.lines _ c.in-Ok.perm c.in-Ok.ensures.table) (row_fits c.in-Some.lines c.state.inside.constants (sym c.check_row.ensures ∙ c.in_default-check_row.is))

pub marked-requires-clause-garbage : goal.marked-requires-clause-garbage
marked-requires-clause-garbage c =
    rw (images_checked-lines c.in-Some.lines _ c.in-Ok.perm c.in-Ok.ensures.table) (row_fits c.in-Some.lines c.state.inside.garbage (sym c.check_row-2.ensures ∙ c.in_default-check_row-2.is))
