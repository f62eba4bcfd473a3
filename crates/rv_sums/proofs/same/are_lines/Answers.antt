use Rattle.std.proofs.Common.{refl, arith}
use Rattle.rv_sums.proofs.inside.Ends.{lines_all, lines_more, lines_none}
use Rattle.rv_sums.proofs.same.are_lines.Goals as goal

pub loop-line-init : goal.loop-line-init
loop-line-init c x v le = lines_none c.args.sums.now x v

pub loop-line-preserved : goal.loop-line-preserved
loop-line-preserved c x v le =
    lines_more c.args.sums.now c.loop-line.line c.loop-line.line c.index-sums-line.result x v c.loop-line-test.true (omega arith)
    c.index-sums-line.is refl (c.is_line.ensures c.if-not-is_line.false x v) (c.loop-line.invariant x v le)

pub returns : goal.returns
returns c on = lines_all c.args.sums.now c.loop-line.line c.loop-line-test.false c.loop-line.invariant
