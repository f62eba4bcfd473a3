use Rattle.std.proofs.Common.{inl, subst, sym}
use Rattle.rv_cmd.specs.Commands.Check.{TellsVerdict, check_report}
use Rattle.rv_cmd.specs.inside.Products.{IsProductOf}
use Rattle.rv_cmd.proofs.Laws.Check.{check-answers, check-refuses-of, check-says}
use Rattle.rv_cmd.proofs.commands.check.ByWordsTwoInputs.make.Goals as goal

pub returns-in-Ok-clause-made : goal.returns-in-Ok-clause-made
returns-in-Ok-clause-made c =
    subst (IsProductOf (check_report c.args.circuit.now c.args.program.now) (TellsVerdict c.args.circuit.now c.args.program.now)) (sym c.told.ensures.product)
    (check-answers c.args.circuit.now c.args.program.now c.net-net.result.now c.lines-lines.result c.in-Ok.verdict c.net-net.ensures.value c.lines-lines.ensures.value
    c.in-Ok.ensures.answer c.in-Ok.ensures.exact)

pub returns-in-Ok-clause-differs : goal.returns-in-Ok-clause-differs
returns-in-Ok-clause-differs c =
    check-says c.args.circuit.now c.args.program.now c.net-net.result.now c.in-Ok.verdict c.told.result.differs c.net-net.ensures.value c.told.ensures.differs
    c.in-Ok.ensures.answer

pub returns-in-Err-clause-unmade : goal.returns-in-Err-clause-unmade
returns-in-Err-clause-unmade c =
    inl (check-refuses-of c.args.circuit.now c.args.program.now c.net-net.result.now c.lines-lines.result c.in-Err.fault c.no_verdict.result c.net-net.ensures.value
    c.lines-lines.ensures.value c.no_verdict.ensures c.in-Err.ensures.answer)
