use Rattle.rv_cube.proofs.inside.Differing.{apart_has}
use Rattle.rv_exorlink.proofs.cube.differing_set.Goals as goal

pub returns : goal.returns
returns c = λ input. apart_has c.args.a c.args.b input
