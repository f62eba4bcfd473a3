use Rattle.std.proofs.Common.{arith, ◌∙◌}
use Rattle.rv_sums.proofs.inside.Facts.{nought_at}
use Rattle.rv_sums.proofs.facts.Facts.nought_of.Goals as goal

pub returns : goal.returns
returns c x v h =
    nought_at c.args.self.now.sums.items c.args.line c.from-at.result c.index.result.now c.in_ok-own.own c.in_ok-both.both x v c.from-at.ensures
    (omega arith) c.index.ensures (c.in_ok-own.ensures x v ∙ c.of_line.ensures.bit x v) (c.in_ok-both.ensures x v) h
