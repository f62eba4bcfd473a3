use Rattle.std.proofs.Common.{length, take}
use Rattle.rv_sums.specs.inside.State.{AreFlips}
use Rattle.rv_sums.proofs.same.flips.Given as goal

abbrev pub invariant-loop-gate : goal.invariant-loop-gate
invariant-loop-gate l = AreFlips (length l.circuit.names) (take l.gate-index l.gate-items) l.made.items
