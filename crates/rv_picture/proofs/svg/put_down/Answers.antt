use Rattle.std.proofs.Common.{ap, sym, ◌∙◌, Bool}
use Rattle.rv_io.proofs.Adding.{adds_as}
use Rattle.rv_picture.specs.Svg.{down_if}
use Rattle.rv_picture.proofs.svg.put_down.Goals as goal

pub returns-then-on : goal.returns-then-on
returns-then-on g c = adds_as (c.down.ensures ∙ ap (λ (on : Bool). down_if on c.args.symbol) (sym c.if-on.true)) c.put.ensures
