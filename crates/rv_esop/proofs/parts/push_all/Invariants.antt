use Rattle.std.proofs.Common.{◌≡◌, ◌++◌, take}
use Rattle.rv_esop.proofs.parts.push_all.Given as goal

abbrev pub invariant-loop-gate : goal.invariant-loop-gate
invariant-loop-gate l =
    l.circuit ≡ record l.initial.circuit { gates = l.initial.circuit.gates ++ take l.gate-index l.gates }
