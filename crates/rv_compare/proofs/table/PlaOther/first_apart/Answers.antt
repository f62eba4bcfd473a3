use Rattle.std.proofs.Common.{arith}
use Rattle.rv_compare.proofs.table.PlaOther.first_apart.Goals as goal

pub returns-clause-first : goal.returns-clause-first
returns-clause-first c k lt = c.loop-place.invariant k (omega arith)
