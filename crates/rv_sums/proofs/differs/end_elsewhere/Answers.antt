use Rattle.std.proofs.Common.{not, ap, ◌∙◌, arith}
use Rattle.rv_sums.proofs.inside.Words.{line_differs}
use Rattle.rv_sums.proofs.differs.end_elsewhere.Goals as goal

pub returns-then-away : goal.returns-then-away
returns-then-away c on x v =
    line_differs c.args.sums.now c.loop-line.line c.from.result c.index-sums-from.result c.args.image
    (omega (arith, c.requires, c.len-line-end.ensures, c.loop-line-test.true)) c.from.ensures c.index-sums-from.is
    (λ y u. c.in_ok-away.ensures c.if-away.true y u ∙ ap not c.bit-bit.ensures) x v
