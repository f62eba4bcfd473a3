use Rattle.rv_gate.proofs.inside.Ones.{ones_of-mirrored}
use Rattle.rv_cube.proofs.value.ones_of.Goals as goal

pub returns-clause-value : goal.returns-clause-value
returns-clause-value c = ones_of-mirrored c.args.inputs c.args.number c.mirrored_u32.result c.mirrored_u32.ensures.bound c.mirrored_u32.ensures.bits
