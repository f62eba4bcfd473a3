use Rattle.std.proofs.Common.{◌≡◌, map, take}
use Rattle.rv_blif.specs.Logic.{Output}
use Rattle.rv_compute.specs.Lines.{with_labels}
use Rattle.rv_compute.proofs.lines.label_outputs.Given as goal

abbrev pub invariant-loop-p : goal.invariant-loop-p
invariant-loop-p l =
    l.circuit ≡ record l.initial.circuit
    { output_labels = with_labels l.initial.circuit.output_labels l.first (map (λ (o : Output). o.name) (take l.p l.logic.outputs)) }
