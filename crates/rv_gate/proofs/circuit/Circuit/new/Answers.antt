use Rattle.rv_gate.proofs.inside.CircuitLemmas.{IsCascade-fresh}
use Rattle.rv_gate.proofs.circuit.Circuit.new.Goals as goal

pub invariant_of-result : goal.invariant_of-result
invariant_of-result c =
    rw (c.in_ok-inputs.ensures.0, c.in_ok-inputs.ensures.1, c.in_ok-outputs.ensures.0, c.in_ok-outputs.ensures.1, c.new-3.ensures.items)
    (IsCascade-fresh c.args.names c.requires c.recall_invariant.ensures)
