use Rattle.rv_cmd.proofs.Laws.Reduce.{reduced-by-answers}
use Rattle.rv_cmd.proofs.commands.reduce.ReduceForOneSearch.find.Goals as goal

pub returns-in-Ok-clause-made : goal.returns-in-Ok-clause-made
returns-in-Ok-clause-made c = reduced-by-answers c.args.self.now.goal c.args.program.now c.net.result.now c.in-Ok.found c.net.ensures.value c.in-Ok.ensures
