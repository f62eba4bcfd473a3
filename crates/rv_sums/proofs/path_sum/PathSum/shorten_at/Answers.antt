use Rattle.rv_terms.proofs.Products.{value-always}
use Rattle.rv_terms.specs.Products.{always}
use Rattle.rv_sums.proofs.inside.Shorter.{brings_half}
use Rattle.rv_sums.proofs.path_sum.PathSum.shorten_at.Goals as goal

pub turn_half-requires-clause-part : goal.turn_half-requires-clause-part
turn_half-requires-clause-part c =
    brings_half c.args.path c.in-Some-half.signs always c.in_ok-part.part c.add.new.self c.args.self.now.phases
    c.in_ok-part.ensures value-always c.in_ok-add.ensures (rw c.in-Some-half.is at c.in_ok-half.ensures)
