use Rattle.rv_io.proofs.Adding.{adds_then, adds_as}
use Rattle.rv_real.proofs.write.put_control.Goals as goal

pub returns : goal.returns
returns g c = adds_as (c.lead.ensures c.args.name.now) (adds_then c.put.ensures c.put-2.ensures)
