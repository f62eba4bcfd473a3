use Rattle.std.proofs.Common.{◌≡◌, false, ap, sym, ◌∙◌}
use Rattle.std.specs.Prelude.{slice_index_or, replicate, ℕ}
use Rattle.std.specs.List.{flat_map}
use Rattle.std.proofs.lemmas.Option.{get_or_from_slice_get}
use Rattle.rv_gate.specs.declared.circuit.Mark.TheVariants as marks
use Rattle.rv_io.proofs.Adding.{adds_then, adds_as}
use Rattle.rv_draw.specs.declared.symbol.Symbol.TheVariants.{Wire}
use Rattle.rv_draw.specs.Symbols.{glyph}
use Rattle.rv_draw.specs.Drawing.{cells_on, first_symbol, last_symbol}
use Rattle.rv_draw.proofs.Texts.{wire_text}
use Rattle.rv_draw.proofs.write.put_wire.Goals as goal

pub returns : goal.returns
returns g c =
    let circuit = c.args.circuit.now in
    let line = c.args.line in
    let mark : c.constant.result ≡ slice_index_or circuit.constants line marks.Input = sym (get_or_from_slice_get circuit.constants line c.constant.result marks.Input c.constant.ensures) in
    let is_garbage : c.garbage.result ≡ slice_index_or circuit.garbage line false = sym (get_or_from_slice_get circuit.garbage line c.garbage.result false c.garbage.ensures) in
    let first : c.first_symbol.result ≡ first_symbol (slice_index_or circuit.constants line marks.Input) = c.first_symbol.ensures ∙ ap first_symbol mark in
    let last : c.last_symbol.result ≡ last_symbol (slice_index_or circuit.garbage line false) = c.last_symbol.ensures ∙ ap last_symbol is_garbage in
    adds_as (wire_text (first_symbol (slice_index_or circuit.constants line marks.Input)) (last_symbol (slice_index_or circuit.garbage line false)) (replicate _ Wire) (cells_on g.G.Drawn.draws line c.args.gates.now))
    (adds_then (adds_as (ap glyph first) c.put_symbol.ensures)
    (adds_then (adds_as (ap (λ (n : ℕ). flat_map glyph (replicate n Wire)) c.requires.pad) c.put_pad.ensures)
    (adds_then c.put_cells.ensures (adds_as (ap glyph last) c.put_symbol-2.ensures))))
