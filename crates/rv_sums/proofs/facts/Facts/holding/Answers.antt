use Rattle.std.proofs.Common.{arith, ◌∙◌}
use Rattle.rv_gate.specs.Gate.{act}
use Rattle.rv_gate.specs.declared.gate.Shape.TheVariants.{Flip}
use Rattle.rv_gate.proofs.inside.GateLemmas.{length-act}
use Rattle.rv_sums.proofs.inside.Facts.{holding_same, holding_told}
use Rattle.rv_sums.proofs.facts.Facts.holding.Goals as goal

pub returns-then-is_empty : goal.returns-then-is_empty
returns-then-is_empty c u v len h =
    let flip = Flip c.args.care c.args.want c.args.target in
    holding_same c.args.care c.args.want c.args.target c.in_ok-sum.sum u v c.requires.free
    (c.in_ok-sum.ensures (act flip u) v (length-act flip u ∙ len))

pub returns : goal.returns
returns c u v len h =
    holding_told c.args.care c.args.want c.args.target c.in_ok-sum.sum c.in_ok-told.told u v (omega (arith, len))
    (λ x w b lt. c.in_ok-lacks.ensures c.if-not-lacks.false x w b lt) (c.in_ok-told.ensures u v h) (c.in_ok-sum.ensures u v len)
