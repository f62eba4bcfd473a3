use Rattle.std.proofs.Common.{take, All}
use Rattle.rv_gate.specs.Gate.{IsFlip}
use Rattle.rv_esop.proofs.cost.are_flips.Given as goal

abbrev pub invariant-loop-gate : goal.invariant-loop-gate
invariant-loop-gate l = All IsFlip (take l.gate-index l.gates)
