use Rattle.std.proofs.Common.{◌∷◌, [], ap, sym, ◌∙◌}
use Rattle.std.proofs.lemmas.Option.{get_or_from_slice_get}
use Rattle.rv_io.proofs.Adding.{adds_then, adds_as}
use Rattle.rv_real.specs.Text.{control_word}
use Rattle.rv_picture.specs.Labels.{written_label}
use Rattle.rv_picture.specs.Markup.{svg_escapes}
use Rattle.rv_picture.proofs.TitleTexts.{name_written}
use Rattle.rv_picture.proofs.title.put_operand.Goals as goal

pub returns : goal.returns
returns g c =
    let names = c.args.names.now in
    let name = sym (get_or_from_slice_get names c.args.line c.name.result.now [] c.name.ensures) in
    let written = ap (written_label svg_escapes) name ∙ name_written names c.args.line c.requires in
    adds_as (c.lead.ensures (written_label svg_escapes c.name.result.now) ∙ ap (λ word. 32 ∷ control_word word c.args.wanted) written)
    (adds_then c.put.ensures c.put_label.ensures)
