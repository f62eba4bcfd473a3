use Rattle.std.proofs.Common.{arith}
use Rattle.rv_sums.proofs.inside.Facts.{told_at}
use Rattle.rv_sums.proofs.facts.Facts.told_at.Goals as goal

pub returns : goal.returns
returns c x v h =
    told_at c.args.self.now.sums.items c.args.line c.from-at.result c.index.result.now c.args.sum c.in_ok-made.made x v c.from-at.ensures
    (omega arith) c.index.ensures (c.in_ok-made.ensures x v) h
