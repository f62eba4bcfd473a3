use Rattle.std.proofs.Common.{refl, arith}
use Rattle.rv_sums.proofs.inside.Ends.{lines_at, lines_more, lines_none}
use Rattle.rv_sums.proofs.inside.Facts.{line_told}
use Rattle.rv_sums.proofs.same.are_told.Goals as goal

pub loop-line-init : goal.loop-line-init
loop-line-init c x v le h = lines_none c.args.sums.now x v

pub loop-line-preserved : goal.loop-line-preserved
loop-line-preserved c x v le h =
    lines_more c.args.sums.now c.loop-line.line c.loop-line.line c.index-sums-line.result x v c.loop-line-test.true (omega arith)
    c.index-sums-line.is refl
    (line_told c.args.facts.now c.loop-line.line c.index-facts-line.result c.index-sums-line.result x v (omega arith) c.index-facts-line.is
    (c.in_ok-told.ensures c.if-not-told.false x v) h) (c.loop-line.invariant x v le h)

pub returns : goal.returns
returns c on x v len h =
    lines_at c.args.sums.now c.loop-line.line x v c.loop-line-test.false len (c.loop-line.invariant x v (omega arith) h)
