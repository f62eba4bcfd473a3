use Rattle.rv_cmd.proofs.Laws.Fold.{fold-answers}
use Rattle.rv_cmd.proofs.commands.fold.FoldOneInput.make.Goals as goal

pub returns-in-Ok-clause-made : goal.returns-in-Ok-clause-made
returns-in-Ok-clause-made c =
    let e = c.in-Ok.ensures in
    fold-answers c.args.program.now c.net.result.now c.in-Ok.folded c.net.ensures.value e.folded e.classes e.restarts
