use Rattle.std.proofs.Common.{◌≡◌, None}
use Rattle.rv_pla.specs.Pla.{conflict_at}
use Rattle.rv_reader.specs.FirstFault.{first_below}
use Rattle.rv_pla.proofs.pla.Pla.conflict_at.Given as goal

abbrev pub invariant-loop-output : goal.invariant-loop-output
invariant-loop-output l = first_below (conflict_at l.self l.x) l.output ≡ None
