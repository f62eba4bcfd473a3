use Rattle.rv_cmd.proofs.Laws.Esop.{found-list}
use Rattle.rv_cmd.proofs.commands.esop.Found.cubes.Goals as goal

pub returns-in-Ok-list-clause-made : goal.returns-in-Ok-list-clause-made
returns-in-Ok-list-clause-made c = found-list c.args.self.now.goal c.args.pla.now c.in-Ok-list.list c.in-Ok-list.ensures.found c.in-Ok-list.ensures.valid
