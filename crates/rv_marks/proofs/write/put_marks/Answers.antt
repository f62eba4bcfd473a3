use Rattle.std.proofs.Common.{map}
use Rattle.rv_io.proofs.Adding.{adds_then, adds_as}
use Rattle.rv_marks.specs.Row.{constant_byte, garbage_byte}
use Rattle.rv_marks.proofs.inside.Row.{rows-spelled}
use Rattle.rv_marks.proofs.write.put_marks.Goals as goal

pub returns : goal.returns
returns g c =
    adds_as (rows-spelled (map constant_byte c.args.constants.now) (map garbage_byte c.args.garbage.now))
    (adds_then c.put.ensures (adds_then c.put_row.ensures.adds (adds_then c.put-2.ensures (adds_then c.put_row-2.ensures.adds c.put-3.ensures))))
