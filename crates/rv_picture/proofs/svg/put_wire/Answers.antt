use Rattle.std.proofs.Common.{ap}
use Rattle.std.specs.Prelude.{decimal}
use Rattle.rv_io.proofs.Adding.{adds_then, adds_as}
use Rattle.rv_picture.proofs.svg.put_wire.Goals as goal

pub returns : goal.returns
returns g c =
    adds_then c.put.ensures
    (adds_then (adds_as (ap decimal c.middle_of_line.ensures) c.put_number.ensures)
    (adds_then c.put_breaks.ensures (adds_then c.put-2.ensures (adds_then (adds_as (ap decimal c.end_of.ensures) c.put_number-2.ensures) c.put-3.ensures))))
