use Rattle.rv_words.specs.declared.command.Blocks.TheVariants.{Joined}
use Rattle.rv_cmd.proofs.Laws.Flow.{flow-found, flow-refuses}
use Rattle.rv_cmd.proofs.commands.flow.joined_network.Goals as goal

pub returns-in-Ok-clause-made : goal.returns-in-Ok-clause-made
returns-in-Ok-clause-made c =
    let a = c.args.asked in
    let e = c.in-Ok.ensures in
    flow-found a.method a.simplify Joined a.aux c.args.spec.now c.in-Ok.circuit e.circuit c.joined_mapping.result c.recall_invariant.ensures (e.helpers a.aux) c.joined_mapping.ensures.made

pub returns-in-Ok-clause-unmade : goal.returns-in-Ok-clause-unmade
returns-in-Ok-clause-unmade c =
    let a = c.args.asked in
    let e = c.in-Ok.ensures in
    flow-refuses a.method a.simplify Joined a.aux c.args.spec.now c.in-Ok.circuit e.circuit c.joined_mapping.result (e.few a.aux) c.joined_mapping.ensures.unmade
