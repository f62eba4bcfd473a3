use Rattle.std.proofs.Common.{[]}
use Rattle.rv_io.proofs.Adding.{adds_as}
use Rattle.rv_draw.specs.Drawing.{text_with}
use Rattle.rv_draw.proofs.Texts.{drawing_text}
use Rattle.rv_draw.proofs.write.write_text.Goals as goal

pub returns : goal.returns
returns g c =
    let base = g.O.Sink.view c.args.sink.now in
    let text = text_with g.G.Drawn.draws c.args.per_block c.args.circuit.now c.args.gates.now in
    let all = adds_as (drawing_text g.G.Drawn.draws c.args.per_block c.args.circuit.now c.args.gates.now) c.put_blocks.ensures in
    c.finish.ensures base text (all.written base [] (c.new-writer.ensures.begins base))
