use Rattle.std.proofs.Common.{[]}
use Rattle.rv_io.proofs.Adding.{adds_as}
use Rattle.rv_picture.specs.Latex.{latex_with}
use Rattle.rv_picture.proofs.LatexBack.{latex_text}
use Rattle.rv_picture.proofs.latex.write_latex.Goals as goal

pub returns : goal.returns
returns g c =
    let base = g.O.Sink.view c.args.sink.now in
    let text = latex_with g.G.Drawn.draws c.args.per_block c.args.lines.now c.args.gates.now in
    let all = adds_as (latex_text g.G.Drawn.draws c.args.per_block c.args.lines.now c.args.gates.now) c.put_blocks.ensures in
    c.finish.ensures base text (all.written base [] (c.new-writer.ensures.begins base))
