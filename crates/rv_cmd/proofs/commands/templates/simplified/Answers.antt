use Rattle.rv_cmd.proofs.Laws.Templates.{simplified-answers}
use Rattle.rv_cmd.proofs.commands.templates.simplified.Goals as goal

pub returns-in-Ok-to_circuit-clause-made : goal.returns-in-Ok-to_circuit-clause-made
returns-in-Ok-to_circuit-clause-made c =
    let s = c.simplify_linked.ensures in
    simplified-answers c.args.library.now c.args.circuit.now c.in-Ok-to_circuit.simpler c.in-Ok.linked c.simplify_linked.new.linked c.in-Ok.ensures.circuit c.in-Ok-to_circuit.ensures
    s.value s.frame s.same s.settled s.fewer s.no_more s.steps c.recall_invariant.ensures
