use Rattle.std.proofs.Common.{arith, ap, length, ◌≤◌}
use Rattle.std.specs.List.{flat_map}
use Rattle.std.proofs.lemmas.List.{take_all}
use Rattle.rv_io.proofs.Adding.{adds_as}
use Rattle.rv_picture.specs.Labels.{escaped}
use Rattle.rv_picture.specs.Markup.{escapes}
use Rattle.rv_picture.proofs.label.put_bytes.Goals as goal

pub returns : goal.returns
returns g c =
    let all : length c.args.bytes.now ≤ c.loop-byte.byte-index = omega arith in
    adds_as (ap (flat_map (escaped (escapes c.args.markup))) (take_all c.loop-byte.byte-index c.args.bytes.now all)) c.loop-byte.invariant
