-- Phases: numbers modulo 8.
use Rattle.std.specs.Prelude.{ℕ, ◌+◌, ◌%◌, Bool, List, [], ◌∷◌, if◌then◌else◌}
use Rattle.rv_terms.specs.Products.{value, odd}
use Rattle.rv_terms.specs.declared.terms.Term.{Term}
use Rattle.rv_terms.specs.declared.kept.Kept.{Kept}
use Rattle.rv_terms.specs.declared.phases.Phases.{Phases}

-- the weights of the products that are 1
abbrev pub total : List Term → List Bool → List Bool → ℕ
total [] x v = 0
total (term ∷ rest) x v = (if value term.product x v then term.weight else 0) + total rest x v

-- the weights of the sums that are 1
abbrev pub total_kept : List Kept → List Bool → List Bool → ℕ
total_kept [] x v = 0
total_kept (kept ∷ rest) x v = (if odd kept.sum x v then kept.weight else 0) + total_kept rest x v

-- the power of the eighth root of one
abbrev pub power : Phases → List Bool → List Bool → ℕ
power phases x v = (total phases.terms.items x v + total_kept phases.kept.items x v) % 8
