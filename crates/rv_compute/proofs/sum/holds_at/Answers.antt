use Rattle.std.proofs.Common.{eqb, ap, ◌∙◌}
use Rattle.std.specs.Prelude.{bit_and, bit_xor}
use Rattle.rv_gate.proofs.LineSets.{Within-below}
use Rattle.rv_gate.proofs.inside.WordLemmas.{held}
use Rattle.rv_compute.proofs.sum.holds_at.Goals as goal

pub returns : goal.returns
returns c =
    let p = c.args.product in
    ap (λ w. eqb (bit_and (bit_xor c.args.set w) c.from-2.result) 0) c.from.ensures
    ∙ ap (λ k. eqb (bit_and (bit_xor c.args.set p.want) k) 0) c.from-2.ensures
    ∙ held c.args.count c.args.set p.care p.want (Within-below p.care c.args.count c.requires)
