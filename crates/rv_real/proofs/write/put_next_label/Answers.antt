use Rattle.rv_io.proofs.Adding.{adds_then}
use Rattle.rv_real.proofs.write.put_next_label.Goals as goal

pub returns : goal.returns
returns g c = adds_then c.put.ensures c.put_label.ensures
