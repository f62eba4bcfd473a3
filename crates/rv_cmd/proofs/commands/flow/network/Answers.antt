use Rattle.rv_cmd.proofs.Laws.Flow.{flow-answers, flow-refuses}
use Rattle.rv_cmd.proofs.commands.flow.network.Goals as goal

pub returns-in-Ok-clause-made : goal.returns-in-Ok-clause-made
returns-in-Ok-clause-made c =
    let a = c.args.asked in
    let e = c.in-Ok.ensures in
    flow-answers a.method a.simplify a.blocks a.aux c.args.spec.now c.in-Ok.circuit e.circuit c.mapping.result c.recall_invariant.ensures (e.helpers a.aux) c.mapping.ensures.made

pub returns-in-Ok-clause-unmade : goal.returns-in-Ok-clause-unmade
returns-in-Ok-clause-unmade c =
    let a = c.args.asked in
    let e = c.in-Ok.ensures in
    flow-refuses a.method a.simplify a.blocks a.aux c.args.spec.now c.in-Ok.circuit e.circuit c.mapping.result (e.few a.aux) c.mapping.ensures.unmade
