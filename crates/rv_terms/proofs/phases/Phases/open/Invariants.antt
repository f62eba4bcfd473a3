use Rattle.std.proofs.Common.{◌≡◌, Bool, List, vec_len}
use Rattle.rv_terms.specs.Phases.{power}
use Rattle.rv_terms.proofs.phases.Phases.open.Given as goal

abbrev pub invariant-loop-kept : goal.invariant-loop-kept
invariant-loop-kept l = (x v : List Bool) → power l.self x v ≡ power l.initial.self x v

abbrev pub decreases-loop-kept : goal.decreases-loop-kept
decreases-loop-kept l = vec_len l.self.kept
