use Rattle.std.proofs.Common.{◌≡◌, [], false, ap, sym, ◌∙◌, ℕ, List, ◌*◌}
use Rattle.std.specs.Prelude.{length, slice_index_or}
use Rattle.std.proofs.lemmas.Option.{get_or_from_slice_get}
use Rattle.rv_gate.specs.declared.circuit.Mark.TheVariants as marks
use Rattle.rv_io.proofs.Adding.{adds_then, adds_as}
use Rattle.rv_draw.specs.Drawing.{label_at}
use Rattle.rv_picture.specs.Svg.{input_body, middle_of, output_body, placed, wire}
use Rattle.rv_picture.proofs.Texts.{line_text}
use Rattle.rv_picture.proofs.SvgTexts.{placed_line, three_lines}
use Rattle.rv_picture.proofs.svg.put_line.Goals as goal

pub returns : goal.returns
returns g c =
    let lines = c.args.lines.now in
    let line = c.args.line in
    let gates = c.args.gates.now in
    let input : c.input_label.result.now ≡ label_at lines.input_labels line = sym (get_or_from_slice_get lines.input_labels line c.input_label.result.now [] c.input_label.ensures) in
    let output : c.output_label.result.now ≡ label_at lines.output_labels line = sym (get_or_from_slice_get lines.output_labels line c.output_label.result.now [] c.output_label.ensures) in
    let mark : c.constant.result ≡ slice_index_or lines.constants line marks.Input = sym (get_or_from_slice_get lines.constants line c.constant.result marks.Input c.constant.ensures) in
    let ends : c.garbage.result ≡ slice_index_or lines.garbage line false = sym (get_or_from_slice_get lines.garbage line c.garbage.result false c.garbage.ensures) in
    let first : List ℕ = input_body (label_at lines.input_labels line) (slice_index_or lines.constants line marks.Input) in
    let last : List ℕ = output_body (label_at lines.output_labels line) (slice_index_or lines.garbage line false) in
    let y : ℕ = middle_of line in
    let x : ℕ = 30 * length gates in
    adds_as (three_lines (placed 0 y first) (wire g.G.Drawn.draws line gates) (placed x y last))
    (adds_then (adds_as (placed_line 0 y first)
    (adds_then (adds_as (ap (λ (at : ℕ). placed 0 at []) c.middle_of_line-y.ensures) c.put_place.ensures)
    (adds_then (adds_as (ap (λ label. input_body label c.constant.result) input ∙ ap (input_body (label_at lines.input_labels line)) mark) c.put_input.ensures) c.put.ensures)))
    (adds_then (adds_as (line_text (wire g.G.Drawn.draws line gates)) (adds_then c.put_wire.ensures c.put-2.ensures))
    (adds_as (placed_line x y last)
    (adds_then (adds_as (ap (λ (at : ℕ). placed c.end_of.result at []) c.middle_of_line-y.ensures ∙ ap (λ (at : ℕ). placed at y []) c.end_of.ensures) c.put_place-2.ensures)
    (adds_then (adds_as (ap (λ label. output_body label c.garbage.result) output ∙ ap (output_body (label_at lines.output_labels line)) ends) c.put_output.ensures) c.put-3.ensures)))))
