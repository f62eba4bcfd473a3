use Rattle.std.proofs.Common.{◌≡◌, [], false, ap, sym, ◌∙◌, ℕ}
use Rattle.std.specs.Prelude.{length, slice_index_or}
use Rattle.std.proofs.lemmas.Option.{get_or_from_slice_get}
use Rattle.rv_gate.specs.declared.circuit.Mark.TheVariants as marks
use Rattle.rv_io.proofs.Adding.{adds_then, adds_as}
use Rattle.rv_draw.specs.Drawing.{label_at}
use Rattle.rv_picture.specs.Latex.{cells_text, input_text, output_text}
use Rattle.rv_picture.proofs.Texts.{row_parts}
use Rattle.rv_picture.proofs.latex.put_row.Goals as goal

pub returns : goal.returns
returns g c =
    let lines = c.args.lines.now in
    let line = c.args.line in
    let input : c.input_label.result.now ≡ label_at lines.input_labels line = sym (get_or_from_slice_get lines.input_labels line c.input_label.result.now [] c.input_label.ensures) in
    let output : c.output_label.result.now ≡ label_at lines.output_labels line = sym (get_or_from_slice_get lines.output_labels line c.output_label.result.now [] c.output_label.ensures) in
    let mark : c.constant.result ≡ slice_index_or lines.constants line marks.Input = sym (get_or_from_slice_get lines.constants line c.constant.result marks.Input c.constant.ensures) in
    let ends : c.garbage.result ≡ slice_index_or lines.garbage line false = sym (get_or_from_slice_get lines.garbage line c.garbage.result false c.garbage.ensures) in
    adds_as (row_parts (input_text (label_at lines.input_labels line) (slice_index_or lines.constants line marks.Input))
    (cells_text g.G.Drawn.draws (length lines.names) c.args.gates.now line) (output_text (label_at lines.output_labels line) (slice_index_or lines.garbage line false)))
    (adds_then (adds_as (ap (λ label. input_text label c.constant.result) input ∙ ap (input_text (label_at lines.input_labels line)) mark) c.put_input.ensures)
    (adds_then (adds_as (ap (λ (n : ℕ). cells_text g.G.Drawn.draws n c.args.gates.now line) c.line_count-count.ensures.value) c.put_cells.ensures)
    (adds_then c.put.ensures
    (adds_then (adds_as (ap (λ label. output_text label c.garbage.result) output ∙ ap (output_text (label_at lines.output_labels line)) ends) c.put_output.ensures) c.put-2.ensures))))
