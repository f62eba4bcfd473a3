use Rattle.std.proofs.Common.{ap, sym, ◌∙◌, arith}
use Rattle.rv_gate.specs.Circuit.{Cascade}
use Rattle.rv_compute.specs.Lines.{with_label}
use Rattle.rv_compute.proofs.Marks.{labels_more, with_inputs}
use Rattle.rv_compute.proofs.lines.label_inputs.Goals as goal

pub loop-input-preserved : goal.loop-input-preserved
loop-input-preserved c =
    let input = c.loop-input.input in
    let name = c.input_name.result.now in
    let circuit = c.args.circuit.now in
    c.in_ok-label_input.ensures
    ∙ ap (λ (t : Cascade). with_inputs t (with_label t.input_labels input name)) c.loop-input.invariant
    ∙ ap (with_inputs circuit)
    (sym (labels_more circuit.input_labels 0 input input c.args.logic.now.inputs name (omega arith) c.input_name.ensures))
