use Rattle.std.proofs.Common.{◌≡◌, Bool, List, take}
use Rattle.rv_terms.specs.Phases.{total_kept}
use Rattle.rv_terms.proofs.kept.copies.Given as goal

abbrev pub invariant-loop-one : goal.invariant-loop-one
invariant-loop-one l = (x v : List Bool) → total_kept l.made.items x v ≡ total_kept (take l.one-index l.kept) x v
