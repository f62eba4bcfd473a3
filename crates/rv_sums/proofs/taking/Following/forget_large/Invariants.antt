use Rattle.std.proofs.Common.{List, []}
use Rattle.rv_gate.specs.declared.gate.Shape.{Shape}
use Rattle.rv_sums.specs.inside.State.{Moves}
use Rattle.rv_sums.proofs.taking.Following.forget_large.Given as goal

abbrev pub invariant-loop-line : goal.invariant-loop-line
invariant-loop-line l = (flips : List Shape) → Moves [] flips l.fn.self l.self
