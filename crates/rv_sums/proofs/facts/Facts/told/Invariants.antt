use Rattle.std.proofs.Common.{◌≡◌, Bool, List}
use Rattle.rv_terms.specs.Products.{odd}
use Rattle.rv_sums.specs.inside.State.{Holds}
use Rattle.rv_sums.proofs.facts.Facts.told.Given as goal

abbrev pub invariant-loop-line : goal.invariant-loop-line
invariant-loop-line l = (x v : List Bool) → Holds l.self.sums.items x → odd l.made x v ≡ odd l.fn.sum x v
