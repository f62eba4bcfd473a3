use Rattle.rv_exorlink.proofs.Steps.{same_self}
use Rattle.rv_exorlink.proofs.search.try_row.Goals as goal

pub returns-in-None : goal.returns-in-None
returns-in-None c = same_self c.args.inputs c.args.free.now c.args.cubes.now.items
