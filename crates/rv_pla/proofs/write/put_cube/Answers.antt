use Rattle.rv_io.proofs.Adding.{adds_then, adds_as}
use Rattle.rv_pla.specs.Text.{input_part, output_part}
use Rattle.rv_pla.proofs.Texts.{cube_spelled}
use Rattle.rv_pla.proofs.write.put_cube.Goals as goal

pub returns : goal.returns
returns g c =
    adds_as (cube_spelled (input_part c.args.inputs c.args.cube) (output_part c.args.outputs c.args.cube))
    (adds_then c.put_inputs.ensures (adds_then c.put.ensures (adds_then c.put_outputs.ensures c.put-2.ensures)))
