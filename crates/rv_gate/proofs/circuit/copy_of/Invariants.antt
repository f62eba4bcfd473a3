use Rattle.std.proofs.Common.{◌≡◌, take}
use Rattle.rv_gate.specs.inside.CircuitView.{labels_in}
use Rattle.std.proofs.Common.{map}
use Rattle.rv_gate.proofs.circuit.copy_of.Given as goal

abbrev pub invariant-loop-label : goal.invariant-loop-label
invariant-loop-label l = labels_in l.copy ≡ map (λ label. label.items) (take l.label-index l.labels)
