use Rattle.std.proofs.Common.{[]}
use Rattle.rv_io.proofs.Adding.{adds_then, adds_as}
use Rattle.rv_pla.specs.Text.{esop_text}
use Rattle.rv_pla.proofs.inside.ReadBack.{esop_back}
use Rattle.rv_pla.proofs.Texts.{text_parts}
use Rattle.rv_pla.proofs.write.write_esop_pla.Goals as goal

pub returns-clause-sends : goal.returns-clause-sends
returns-clause-sends g c =
    let base = g.O.Sink.view c.args.sink.now in
    let all = adds_as (text_parts c.args.inputs c.args.outputs c.args.cubes.now) (adds_then c.put_head.ensures (adds_then c.put_cubes.ensures c.put.ensures)) in
    c.finish.ensures base (esop_text c.args.inputs c.args.outputs c.args.cubes.now) (all.written base [] (c.new-writer.ensures.begins base))

pub returns-clause-back : goal.returns-clause-back
returns-clause-back g c = esop_back c.args.inputs c.args.outputs c.args.cubes.now c.requires.some_inputs c.requires.few_inputs c.requires.some_outputs c.requires.few_outputs c.requires.cubes
