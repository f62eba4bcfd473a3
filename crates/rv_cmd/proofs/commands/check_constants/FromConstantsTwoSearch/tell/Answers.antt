use Rattle.std.proofs.Common.{sym, ◌∙◌}
use Rattle.rv_cmd.proofs.Laws.CheckConstants.{answer-differs, answer-made, constants-answer, constants-by-lines}
use Rattle.rv_cmd.proofs.commands.check_constants.FromConstantsTwoSearch.tell.Goals as goal

pub returns-then-circuit_lines-lines-clause-differs : goal.returns-then-circuit_lines-lines-clause-differs
returns-then-circuit_lines-lines-clause-differs c =
    (constants-by-lines c.args.circuit.now c.args.program.now c.net-net.result.now c.net-net.ensures.value c.lines-lines.result
    c.line_count-circuit_lines.result c.lines-lines.ensures.value c.line_count-circuit_lines.ensures.value c.if-circuit_lines-lines.true c.told.result
    c.told.ensures.product c.told.ensures.differs).differs

pub returns-in-Ok-clause-made : goal.returns-in-Ok-clause-made
returns-in-Ok-clause-made c =
    answer-made c.args.circuit.now c.args.program.now c.told_finding.result
    (constants-answer c.args.circuit.now c.args.program.now c.net-net.result.now c.net-net.ensures.value c.lines-lines.result c.lines-lines.ensures.value
    (sym c.line_count-circuit_lines.ensures.value ∙ c.if-circuit_lines-lines.false) c.in-Ok.finding c.in-Ok.ensures c.told_finding.result
    c.told_finding.ensures)

pub returns-in-Ok-clause-differs : goal.returns-in-Ok-clause-differs
returns-in-Ok-clause-differs c =
    answer-differs c.args.circuit.now c.args.program.now c.told_finding.result
    (constants-answer c.args.circuit.now c.args.program.now c.net-net.result.now c.net-net.ensures.value c.lines-lines.result c.lines-lines.ensures.value
    (sym c.line_count-circuit_lines.ensures.value ∙ c.if-circuit_lines-lines.false) c.in-Ok.finding c.in-Ok.ensures c.told_finding.result
    c.told_finding.ensures)
