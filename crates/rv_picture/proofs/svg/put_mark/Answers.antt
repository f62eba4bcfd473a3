use Rattle.std.proofs.Common.{◌≡◌, ap, sym, ◌∙◌, Bool, true, cond, [], ◌∷◌}
use Rattle.std.specs.Prelude.{decimal}
use Rattle.rv_io.proofs.Adding.{adds_then, adds_as}
use Rattle.rv_picture.specs.Cut.{text_of_lines}
use Rattle.rv_picture.specs.Latex.{is_on}
use Rattle.rv_picture.specs.Svg.{Stroke, body, down_if, middle_of, placed, shape, stroke, up_if}
use Rattle.rv_picture.proofs.SvgTexts.{stroke_line}
use Rattle.rv_picture.proofs.svg.put_mark.Goals as goal

pub returns-then-is_on : goal.returns-then-is_on
returns-then-is_on g c =
    let line = c.args.line in
    let mark : Stroke = stroke c.args.symbol c.args.from_above c.args.is_joined in
    let on : is_on c.args.symbol ≡ true = sym c.is_on.ensures ∙ c.if-is_on.true in
    adds_as (stroke_line (middle_of line) (up_if c.args.from_above c.args.symbol) (down_if c.args.is_joined c.args.symbol) (shape c.args.symbol)
    ∙ ap (λ (t : Bool). text_of_lines (cond t (placed 0 (middle_of line) (body mark) ∷ []) [])) (sym on))
    (adds_then c.put.ensures (adds_then (adds_as (ap decimal c.middle_of_line.ensures) c.put_number.ensures)
    (adds_then c.put-then-is_on.ensures (adds_then c.put_up.ensures (adds_then c.put_down.ensures (adds_then (adds_as c.shape.ensures c.put-then-is_on-2.ensures) c.put-then-is_on-3.ensures))))))
