use Rattle.rv_embed.specs.Embedding.{embedding_of}
use Rattle.rv_words.specs.declared.command.Blocks.TheVariants.{Joined}
use Rattle.rv_cmd.specs.Commands.Embed.{embed_limits}
use Rattle.rv_cmd.specs.Commands.Flow.{flow_limits}
use Rattle.rv_cmd.proofs.Laws.Flow.{function-found, function-refuses}
use Rattle.rv_cmd.proofs.inside.Limits.{refusal-before}
use Rattle.rv_cmd.proofs.commands.flow.FunctionFlowOneSearch.find.Goals as goal

pub returns-in-Ok-clause-made : goal.returns-in-Ok-clause-made
returns-in-Ok-clause-made c =
    let s = c.args.self.now.asked in
    let e = c.in-Ok.ensures in
    function-found s.method s.simplify Joined s.aux c.args.pla.now c.in-Ok.spec e.kept e.made c.joined_network.result c.joined_network.ensures.made

pub returns-in-Ok-clause-unmade : goal.returns-in-Ok-clause-unmade
returns-in-Ok-clause-unmade c =
    let s = c.args.self.now.asked in
    let e = c.in-Ok.ensures in
    function-refuses s.method s.simplify Joined s.aux c.args.pla.now c.in-Ok.spec e.kept e.made c.joined_network.result c.joined_network.ensures.unmade

pub returns-in-Err-clause-unmade : goal.returns-in-Err-clause-unmade
returns-in-Err-clause-unmade c =
    let s = c.args.self.now.asked in
    refusal-before 1 (embed_limits c.args.pla.now) (flow_limits s.method s.simplify Joined s.aux (embedding_of c.args.pla.now)) c.in-Err.refusal c.in-Err.ensures.unmade
