use Rattle.rv_cmd.proofs.Laws.Single.{single-answers}
use Rattle.rv_cmd.proofs.commands.single.SingleOneInput.make.Goals as goal

pub returns-in-Ok-clause-made : goal.returns-in-Ok-clause-made
returns-in-Ok-clause-made c =
    single-answers c.args.spec.now c.in-Ok.circuit c.recall_invariant.ensures c.in-Ok.ensures.circuit c.recall_invariant-in-Ok.ensures
