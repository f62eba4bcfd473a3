use Rattle.std.proofs.Common.{refl, arith}
use Rattle.rv_terms.proofs.Products.{value-always}
use Rattle.rv_terms.specs.Products.{always}
use Rattle.rv_sums.proofs.inside.Shorter.{half_leads, half_phases}
use Rattle.rv_sums.proofs.path_sum.PathSum.turn_half.Goals as goal

pub returns : goal.returns
returns c =
    half_leads c.args.path c.args.signs c.args.self.now _ c.requires.path c.requires.ends c.requires.part
    (c.has_path.ensures c.if-has_path.false) refl
    (λ x v e.
    half_phases c.args.path c.new-none.result c.args.signs always c.args.self.now.phases c.in_ok-phases.phases c.add.new.self
    c.add_sum.new.self x v (c.new-none.ensures x v) (value-always x v) (c.in_ok-phases.ensures x v (omega arith))
    (c.in_ok-add.ensures x v) (c.in_ok-add_sum.ensures x v))
    refl
