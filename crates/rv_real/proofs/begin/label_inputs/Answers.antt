use Rattle.std.proofs.Common.{set, arith, ap}
use Rattle.std.proofs.lemmas.List.Elements.{All-get_or}
use Rattle.rv_gate.specs.Circuit.{Cascade, IsLabel}
use Rattle.rv_gate.specs.inside.CircuitView.{labels_in}
use Rattle.rv_gate.proofs.Setting.{IsSetting-more_at}
use Rattle.rv_real.proofs.inside.KeptLabels.{label_at}
use Rattle.rv_real.proofs.begin.label_inputs.Goals as goal

pub set_input_label-requires-clause-label : goal.set_input_label-requires-clause-label
set_input_label-requires-clause-label c =
    let label = label_at c.args.labels.now c.loop-line.line c.from.result c.index.result.now c.deref.result.now c.index.ensures c.from.ensures c.deref.ensures.value in
    rw label (All-get_or IsLabel (labels_in c.args.labels.now) c.loop-line.line c.deref.result.now (omega (arith, c.requires.count)) c.requires.labels)

pub loop-line-preserved : goal.loop-line-preserved
loop-line-preserved c =
    let label = label_at c.args.labels.now c.loop-line.line c.from.result c.index.result.now c.deref.result.now c.index.ensures c.from.ensures c.deref.ensures.value in
    rw c.in_default.ensures.ok (record {
      names = c.loop-line.invariant.names;
      rest = ap (λ (x : Cascade). record x { input_labels = set c.loop-line.circuit.input_labels c.loop-line.line c.deref.result.now }) c.loop-line.invariant.rest;
      setting = IsSetting-more_at (labels_in c.args.labels.now) c.loop-line.circuit.input_labels c.loop-line.line c.deref.result.now c.loop-line.invariant.setting (omega (arith, c.requires.count)) label;
    })
