use Rattle.std.proofs.Common.{◌∙◌, ap}
use Rattle.rv_compare.specs.Compare.{asked}
use Rattle.rv_cmd.specs.Commands.Compare.{says_apart}
use Rattle.rv_cmd.proofs.Laws.Compare.{compare-untold, logic-made}
use Rattle.rv_cmd.proofs.commands.compare.WithLogicTwoInputs.make.Goals as goal

pub returns-in-Ok-clause-made : goal.returns-in-Ok-clause-made
returns-in-Ok-clause-made c =
    let e = c.in-Ok.ensures in
    logic-made (asked c.args.self.now.all c.args.circuit.now) c.args.network.now c.input_count.result c.in-Ok.answer c.told.result.product c.input_count.ensures.value e.value
    c.told.ensures.product

pub returns-in-Ok-clause-differs : goal.returns-in-Ok-clause-differs
returns-in-Ok-clause-differs c = c.told.ensures.differs ∙ ap says_apart c.in-Ok.ensures.value

pub returns-in-Err-clause-unmade : goal.returns-in-Err-clause-unmade
returns-in-Err-clause-unmade c =
    compare-untold c.args.self.now.nodes c.args.self.now.all c.args.circuit.now c.args.network.now c.in-Err.fault c.no_answer.result c.in-Err.ensures.ends c.no_answer.ensures
