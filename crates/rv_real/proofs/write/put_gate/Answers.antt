use Rattle.rv_io.proofs.Adding.{adds_then}
use Rattle.rv_real.proofs.write.put_gate.Goals as goal

pub returns : goal.returns
returns g c = adds_then c.put_gate_words.ensures c.put_byte.ensures
