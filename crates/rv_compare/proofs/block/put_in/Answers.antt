use Rattle.std.proofs.Common.{◌≡◌, ◌-◌, ◌+◌, ℕ, set, arith}
use Rattle.std.proofs.lemmas.List.{drop_more}
use Rattle.rv_compare.proofs.inside.Rows.{put_none, put_more}
use Rattle.rv_compare.proofs.block.put_in.Goals as goal

pub loop-line-init : goal.loop-line-init
loop-line-init c = put_none c.args.marks.now c.args.block c.args.rows.now _ (omega arith) (omega arith)

pub loop-line-preserved : goal.loop-line-preserved
loop-line-preserved c =
    let line : ℕ = c.loop-line.line - 1 in
    let next : c.loop-line.line ≡ line + 1 = omega arith in
    let rows = set c.loop-line.rows line c.line_row.result in
    rw (c.from-bit.ensures, c.takes_input.ensures)
    (put_more c.args.marks.now c.args.block c.loop-line.rows line c.loop-line.bit _ c.line_row.result (omega arith) (omega arith) (drop_more c.args.marks.now line _ (omega arith)) c.line_row.ensures
    (rw next at c.loop-line.invariant))
