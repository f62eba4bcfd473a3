use Rattle.rv_exorlink.proofs.Steps.{same_self}
use Rattle.rv_exorlink.proofs.change.change_at.Goals as goal

pub returns-then-slot-len : goal.returns-then-slot-len
returns-then-slot-len c = same_self c.args.inputs c.args.free.now c.args.cubes.now.items

pub returns-in-None : goal.returns-in-None
returns-in-None c = same_self c.args.inputs c.args.free.now c.args.cubes.now.items
