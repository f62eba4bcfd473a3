use Rattle.std.proofs.Common.{◌≡◌, ℕ, None}
use Rattle.rv_pla.specs.Pla.{conflict_at}
use Rattle.rv_reader.specs.FirstFault.{first_below}
use Rattle.rv_pla.proofs.pla.Pla.conflict.Given as goal

abbrev pub invariant-loop-x : goal.invariant-loop-x
invariant-loop-x l = first_below (λ (x : ℕ). first_below (conflict_at l.self x) l.self.outputs) l.x ≡ None
