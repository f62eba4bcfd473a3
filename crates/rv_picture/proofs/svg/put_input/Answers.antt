use Rattle.rv_io.proofs.Adding.{adds_then, adds_as}
use Rattle.rv_picture.proofs.svg.put_input.Goals as goal

pub returns : goal.returns
returns g c = adds_then c.put.ensures (adds_then c.put_label.ensures (adds_as c.input_end.ensures c.put-2.ensures))
