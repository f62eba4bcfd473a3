use Rattle.std.proofs.Common.{◌∙◌, ap}
use Rattle.rv_compare.specs.Compare.{asked}
use Rattle.rv_cmd.specs.Commands.Compare.{says_apart}
use Rattle.rv_cmd.proofs.Laws.Compare.{table-made}
use Rattle.rv_cmd.proofs.commands.compare.WithTableTwoInputs.make.Goals as goal

pub returns-clause-made : goal.returns-clause-made
returns-clause-made c =
    table-made (asked c.args.self.now.all c.args.circuit.now) c.args.pla.now c.input_count.result c.compare_table.result c.told.result.product c.input_count.ensures.value c.compare_table.ensures.value c.told.ensures.product

pub returns-clause-differs : goal.returns-clause-differs
returns-clause-differs c = c.told.ensures.differs ∙ ap says_apart c.compare_table.ensures.value
