use Rattle.std.proofs.Common.{◌∙◌, ap}
use Rattle.rv_compare.specs.Compare.{asked}
use Rattle.rv_cmd.specs.Commands.Compare.{says_apart}
use Rattle.rv_cmd.proofs.Laws.Compare.{circuits-made, compare-untold, many-ends}
use Rattle.rv_cmd.proofs.commands.compare.WithCircuitTwoInputs.make.Goals as goal

pub returns-in-Ok-clause-made : goal.returns-in-Ok-clause-made
returns-in-Ok-clause-made c =
    circuits-made (asked c.args.self.now.all c.args.first.now) (asked c.args.self.now.all c.args.second.now) c.input_count.result c.in-Ok.answer c.told.result.product c.input_count.ensures.value c.in-Ok.ensures.value
    c.told.ensures.product

pub returns-in-Ok-clause-differs : goal.returns-in-Ok-clause-differs
returns-in-Ok-clause-differs c = c.told.ensures.differs ∙ ap says_apart c.in-Ok.ensures.value

pub returns-in-Err-clause-unmade : goal.returns-in-Err-clause-unmade
returns-in-Err-clause-unmade c =
    compare-untold c.args.self.now.nodes c.args.self.now.all c.args.first.now c.args.second.now c.in-Err.fault c.no_answer.result (many-ends (asked c.args.self.now.all c.args.first.now) c.in-Err.fault c.in-Err.ensures.ends) c.no_answer.ensures
