use Rattle.rv_io.proofs.Adding.{adds_then}
use Rattle.rv_real.proofs.write.put_labels.Goals as goal

pub returns : goal.returns
returns g c = adds_then c.put.ensures (adds_then c.put_label_row.ensures (adds_then c.put-2.ensures (adds_then c.put_label_row-2.ensures c.put-3.ensures)))
