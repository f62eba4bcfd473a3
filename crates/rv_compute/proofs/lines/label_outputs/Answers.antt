use Rattle.std.proofs.Common.{◌≡◌, ◌+◌, ◌<◌, List, ℕ, length, map, take, get_or, ap, sym, ◌∙◌, arith}
use Rattle.rv_gate.specs.Circuit.{Cascade}
use Rattle.rv_blif.specs.Logic.{Output}
use Rattle.rv_compute.specs.Lines.{with_label, with_labels}
use Rattle.rv_compute.proofs.Marks.{labels_more-map, with_outputs}
use Rattle.rv_compute.proofs.lines.label_outputs.Goals as goal

pub loop-p-preserved : goal.loop-p-preserved
loop-p-preserved c =
    let p = c.loop-p.p in
    let name = c.name.result.now in
    let output = c.index-outputs-p.result in
    let outputs = c.args.logic.now.outputs in
    let circuit = c.args.circuit.now in
    let line = c.args.first + p in
    let f : Output → List ℕ = λ o. o.name in
    let same = c.outputs-outputs.ensures.value in
    let size = ap (λ (l : List Output). length l) same in
    let below = c.loop-p-test.true in
    let lt : p < length outputs = omega arith in
    let is : name ≡ f (get_or outputs p output) =
    c.name.ensures ∙ ap f (c.index-outputs-p.is ∙ ap (λ (l : List Output). get_or l p output) same) in
    c.in_ok-label_output.ensures
    ∙ ap (λ (t : Cascade). with_outputs t (with_label t.output_labels line name)) c.loop-p.invariant
    ∙ ap (with_outputs circuit)
    (ap (with_label (with_labels circuit.output_labels c.args.first (map f (take p outputs))) line) is
    ∙ sym (labels_more-map f circuit.output_labels c.args.first p outputs output lt))
