use Rattle.std.proofs.Common.{refl}
use Rattle.rv_gate.specs.inside.CircuitView.{circuit_view}
use Rattle.rv_gate.proofs.inside.CircuitLemmas.{labels_in-with_item, IsCascade-output_label}
use Rattle.rv_gate.proofs.circuit.Circuit.set_output_label.Goals as goal

pub invariant_of-self : goal.invariant_of-self
invariant_of-self c =
    rw (labels_in-with_item c.self.inside.outputs.labels c.from.result c.in_ok-own.own, c.in_ok-own.ensures.ok.0)
    (IsCascade-output_label (circuit_view c.self.inside) c.from.result c.args.label.now c.self.invariant c.in_ok-own.ensures.ok.1)

pub returns-clause-ok : goal.returns-clause-ok
returns-clause-ok c =
    rw (← c.self.view_is, labels_in-with_item c.self.inside.outputs.labels c.from.result c.in_ok-own.own, c.in_ok-own.ensures.ok.0, c.from.ensures) refl
