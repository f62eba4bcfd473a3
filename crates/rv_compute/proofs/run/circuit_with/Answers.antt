use Rattle.std.proofs.Common.{◌≡◌, length, ap, sym, ◌∙◌}
use Rattle.rv_gate.specs.Circuit.{Cascade}
use Rattle.rv_compute.specs.inside.Held.{line_count}
use Rattle.rv_compute.proofs.inside.Computed.{valid_gates, fit_gates}
use Rattle.rv_compute.proofs.Marks.{length-line_names}
use Rattle.rv_compute.proofs.run.circuit_with.Goals as goal

pub set_gates-requires-clause-valid : goal.set_gates-requires-clause-valid
set_gates-requires-clause-valid c =
    valid_gates (line_count c.args.logic.now c.args.extra) c.args.gates.items c.requires.fit

pub set_gates-requires-clause-fits : goal.set_gates-requires-clause-fits
set_gates-requires-clause-fits c =
    let logic = c.args.logic.now in
    let lines : length c.in_ok-circuit.circuit.names ≡ line_count logic c.args.extra =
    ap (λ (t : Cascade). length t.names) c.in_ok-circuit.ensures
    ∙ length-line_names (length logic.inputs) (length logic.outputs) c.args.extra in
    fit_gates (line_count logic c.args.extra) (length c.in_ok-circuit.circuit.names) c.args.gates.items (sym lines)
    c.requires.fit
