use Rattle.std.proofs.Common.{◌≡◌, ℕ, [], ap, sym, ◌∙◌, ◌-◌}
use Rattle.std.specs.List.{flat_map}
use Rattle.std.proofs.lemmas.Option.{get_or_from_slice_get}
use Rattle.rv_io.proofs.Adding.{adds_then, adds_as}
use Rattle.rv_real.specs.Text.{label_word}
use Rattle.rv_draw.specs.Symbols.{glyph}
use Rattle.rv_draw.specs.Drawing.{widest, width, label_at, wire_on}
use Rattle.rv_draw.proofs.Texts.{row_text}
use Rattle.rv_draw.proofs.write.put_row.Goals as goal

pub put_wire-requires-clause-pad : goal.put_wire-requires-clause-pad
put_wire-requires-clause-pad g c =
    let labels = c.args.circuit.now.input_labels in
    let here : label_at labels c.args.line ≡ c.input_label-label.result.now = get_or_from_slice_get labels c.args.line c.input_label-label.result.now [] c.input_label-label.ensures in
    c.saturating_sub-pad.ensures ∙ ap (λ (m : ℕ). m - c.width.result) c.requires.most ∙ ap (λ (w : ℕ). widest labels - w) (c.width.ensures ∙ ap width (sym here))

pub returns : goal.returns
returns g c =
    let circuit = c.args.circuit.now in
    let line = c.args.line in
    let input : c.input_label-label.result.now ≡ label_at circuit.input_labels line = sym (get_or_from_slice_get circuit.input_labels line c.input_label-label.result.now [] c.input_label-label.ensures) in
    let output : c.output_label.result.now ≡ label_at circuit.output_labels line = sym (get_or_from_slice_get circuit.output_labels line c.output_label.result.now [] c.output_label.ensures) in
    adds_as (row_text (label_word (label_at circuit.input_labels line)) (flat_map glyph (wire_on g.G.Drawn.draws circuit c.args.gates.now line)) (label_word (label_at circuit.output_labels line)))
    (adds_then (adds_as (ap label_word input) c.put_label.ensures)
    (adds_then c.put.ensures (adds_then c.put_wire.ensures (adds_then c.put-2.ensures (adds_then (adds_as (ap label_word output) c.put_label-2.ensures) c.put-3.ensures)))))
