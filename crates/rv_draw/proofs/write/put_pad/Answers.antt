use Rattle.rv_io.proofs.Adding.{adds_then, adds_as}
use Rattle.rv_draw.proofs.Texts.{pad_more}
use Rattle.rv_draw.proofs.write.put_pad.Goals as goal

pub loop-preserved : goal.loop-preserved
loop-preserved g c = adds_as (pad_more c.loop.counter) (adds_then c.loop.invariant c.put_symbol.ensures)
