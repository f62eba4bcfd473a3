use Rattle.std.proofs.Common.{◌<◌, ◌≤◌, [], ap, sym, ◌∙◌, arith, length}
use Rattle.std.proofs.lemmas.Option.{get_or_from_slice_get}
use Rattle.rv_io.proofs.Adding.{adds_as, adds_none}
use Rattle.rv_picture.specs.Labels.{written_label}
use Rattle.rv_picture.specs.Markup.{svg_escapes}
use Rattle.rv_picture.proofs.TitleTexts.{name_after, name_written}
use Rattle.rv_picture.proofs.title.put_name.Goals as goal

pub returns-then-line-len : goal.returns-then-line-len
returns-then-line-len g c =
    let names = c.args.names.now in
    let name = sym (get_or_from_slice_get names c.args.line c.name.result.now [] c.name.ensures) in
    let lt : c.args.line < length names = omega arith in
    adds_as (ap (written_label svg_escapes) name ∙ name_written names c.args.line lt) c.put_label.ensures

pub returns-else-line-len : goal.returns-else-line-len
returns-else-line-len g c =
    let names = c.args.names.now in
    let le : length names ≤ c.args.line = omega arith in
    adds_as (sym (name_after names c.args.line le)) (adds_none _ _)
