use Rattle.std.proofs.Common.{take}
use Rattle.rv_esop.specs.Parts.{AppendsSame}
use Rattle.rv_esop.proofs.parts.push_each.Given as goal

abbrev pub invariant-loop-gate : goal.invariant-loop-gate
invariant-loop-gate l = AppendsSame (take l.gate-index l.gates) l.initial.circuit l.circuit
