use Rattle.rv_cmd.proofs.Laws.Resynth.{marks-answers}
use Rattle.rv_cmd.proofs.commands.resynth.ByMarksOneSearch.find.Goals as goal

pub returns-in-Ok-clause-made : goal.returns-in-Ok-clause-made
returns-in-Ok-clause-made c =
    marks-answers c.args.self.now.search.goal c.args.self.now.search.effort c.args.circuit.now c.in-Ok.new c.recall_invariant.ensures c.in-Ok.ensures.found
    c.in-Ok.ensures.idle
