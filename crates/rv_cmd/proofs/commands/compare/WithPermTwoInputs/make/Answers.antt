use Rattle.std.proofs.Common.{◌∙◌, ap}
use Rattle.rv_compare.specs.Compare.{asked, asked_perm}
use Rattle.rv_cmd.specs.Commands.Compare.{says_apart}
use Rattle.rv_cmd.proofs.Laws.Compare.{perm-made}
use Rattle.rv_cmd.proofs.commands.compare.WithPermTwoInputs.make.Goals as goal

pub returns-clause-made : goal.returns-clause-made
returns-clause-made c =
    perm-made (asked c.args.self.now.all c.args.circuit.now) (asked_perm c.args.self.now.all c.args.spec.now) c.input_count.result c.compare_perm.result c.told.result.product c.input_count.ensures.value c.compare_perm.ensures.value c.told.ensures.product

pub returns-clause-differs : goal.returns-clause-differs
returns-clause-differs c = c.told.ensures.differs ∙ ap says_apart c.compare_perm.ensures.value
