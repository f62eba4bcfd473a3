use Rattle.rv_io.proofs.Adding.{adds_then}
use Rattle.rv_real.proofs.write.put_name.Goals as goal

pub returns : goal.returns
returns g c = adds_then c.put.ensures c.put-2.ensures
