use Rattle.std.proofs.Common.{refl, arith, ◌∙◌}
use Rattle.rv_sums.proofs.inside.Facts.{lost}
use Rattle.rv_sums.proofs.facts.Facts.lose.Goals as goal

pub returns : goal.returns
returns c x h =
    lost c.args.self.now.sums.items _ c.args.line c.from-at.result c.in_ok-bit.bit x c.from-at.ensures (omega arith)
    (λ v. c.in_ok-bit.ensures x v ∙ c.of_line.ensures.bit x v) refl h
