use Rattle.std.proofs.Common.{◌≡◌, ◌+◌, ◌%◌, Bool, List, take}
use Rattle.rv_terms.specs.Phases.{total, total_kept, power}
use Rattle.rv_terms.specs.inside.Put.{IsPut}
use Rattle.rv_terms.proofs.phases.Phases.replaced.Given as goal

abbrev pub invariant-loop-term : goal.invariant-loop-term
invariant-loop-term l =
    (x v y w : List Bool) → IsPut l.bit l.with.products.items x v y w
    → power l.made x v ≡ total (take l.term-index l.term-items) y w % 8

abbrev pub invariant-loop-kept : goal.invariant-loop-kept
invariant-loop-kept l =
    (x v y w : List Bool) → IsPut l.bit l.with.products.items x v y w
    → power l.made x v ≡ (total l.self.terms.items y w + total_kept (take l.kept-index l.kept-items) y w) % 8
