use Rattle.std.proofs.Common.{◌≡◌, ◌%◌, Bool, cond, List, take}
use Rattle.rv_terms.specs.Products.{parity}
use Rattle.rv_terms.specs.Phases.{total}
use Rattle.rv_terms.proofs.phases.Phases.signs.Given as goal

abbrev pub invariant-loop-term : goal.invariant-loop-term
invariant-loop-term l =
    (x v : List Bool) → total (take l.term-index l.term-items) x v % 8 ≡ cond (parity l.made.items x v) 4 0
