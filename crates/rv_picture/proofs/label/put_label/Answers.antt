use Rattle.std.proofs.Common.{sym, ◌∙◌}
use Rattle.rv_io.proofs.Adding.{adds_as}
use Rattle.rv_picture.specs.Markup.{escapes}
use Rattle.rv_picture.proofs.inside.Plain.{plain_written}
use Rattle.rv_picture.proofs.label.put_label.Goals as goal

pub returns-then-are_plain : goal.returns-then-are_plain
returns-then-are_plain g c =
    adds_as (plain_written (escapes c.args.markup) c.args.label.now (sym c.are_plain.ensures ∙ c.if-are_plain.true)) c.put.ensures
