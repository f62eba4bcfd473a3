use Rattle.std.proofs.Common.{ap₂, ◌∙◌, arith}
use Rattle.rv_gate.specs.Gate.{act, xor}
use Rattle.rv_gate.specs.declared.gate.Shape.TheVariants.{Flip}
use Rattle.rv_sums.proofs.inside.Facts.{turns_back}
use Rattle.rv_sums.proofs.facts.Facts.back.Goals as goal

pub returns : goal.returns
returns c u v len h =
    let y = act (Flip c.args.care c.args.want c.args.target) u in
    turns_back c.args.care c.args.want c.args.target c.add.new.self u v (omega arith)
    (c.in_ok-add.ensures y v ∙ ap₂ xor (c.in_ok-with.ensures u v len h) (c.of_line-product.ensures.bit y v))
