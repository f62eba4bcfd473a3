use Rattle.std.proofs.Common.{ap, ◌∙◌, ℕ, ◌*◌, ◌+◌}
use Rattle.std.specs.Prelude.{decimal}
use Rattle.rv_io.proofs.Adding.{adds_then, adds_as}
use Rattle.rv_picture.specs.Svg.{picture_width, size}
use Rattle.rv_picture.proofs.SvgTexts.{head_line}
use Rattle.rv_picture.proofs.svg.put_head.Goals as goal

pub returns : goal.returns
returns g c =
    let lines = c.args.lines.now in
    let columns = c.args.columns in
    let blocks = c.args.blocks in
    adds_as (head_line lines columns blocks)
    (adds_then c.put.ensures
    (adds_then (adds_as (ap decimal c.margin-margin.ensures.value) c.put_number.ensures)
    (adds_then c.put-2.ensures
    (adds_then (adds_as (ap (λ (m : ℕ). size (2 * m + 30 * columns) c.height-height.result) c.margin-margin.ensures.value
    ∙ ap (size (picture_width lines columns)) (c.height-height.ensures ∙ ap (λ (n : ℕ). 30 * (n + 1) * blocks) c.line_count.ensures.value)) c.put_size.ensures)
    c.put-3.ensures))))
