use Rattle.rv_cmd.proofs.Laws.Reduce.{reduce-answers}
use Rattle.rv_cmd.proofs.commands.reduce.PlainReduceOneSearch.find.Goals as goal

pub returns-in-Ok-clause-made : goal.returns-in-Ok-clause-made
returns-in-Ok-clause-made c = reduce-answers c.args.program.now c.net.result.now c.in-Ok.net c.net.ensures.value c.in-Ok.ensures
