use Rattle.std.proofs.Common.{◌≡◌, take}
use Rattle.rv_gate.specs.inside.CircuitView.{labels_in}
use Rattle.rv_gate.proofs.circuit.labels_of.Given as goal

abbrev pub invariant-loop-line : goal.invariant-loop-line
invariant-loop-line l = labels_in l.labels ≡ take l.line l.names
