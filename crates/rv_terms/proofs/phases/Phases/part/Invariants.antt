use Rattle.std.proofs.Common.{◌≡◌, ◌+◌, ◌%◌, Bool, List, [], ◌∷◌, take}
use Rattle.rv_terms.specs.Products.{always}
use Rattle.rv_terms.specs.Phases.{total, total_kept, power}
use Rattle.rv_terms.specs.inside.Put.{IsPut}
use Rattle.rv_terms.proofs.phases.Phases.part.Given as goal

abbrev pub invariant-loop-term : goal.invariant-loop-term
invariant-loop-term l =
    (x v y w z u : List Bool) → IsPut l.bit [] x v y w → IsPut l.bit (always ∷ []) x v z u
    → total (take l.term-index l.term-items) z u % 8
    ≡ (total (take l.term-index l.term-items) y w + power l.part x v) % 8

abbrev pub invariant-loop-kept : goal.invariant-loop-kept
invariant-loop-kept l =
    (x v y w z u : List Bool) → IsPut l.bit [] x v y w → IsPut l.bit (always ∷ []) x v z u
    → (total l.self.terms.items z u + total_kept (take l.kept-index l.kept-items) z u) % 8
    ≡ (total l.self.terms.items y w + total_kept (take l.kept-index l.kept-items) y w + power l.part x v) % 8
