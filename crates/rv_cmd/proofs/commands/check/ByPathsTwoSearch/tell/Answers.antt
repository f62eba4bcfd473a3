use Rattle.std.proofs.Common.{subst, sym, ◌∙◌}
use Rattle.rv_sums.specs.Finding.{IsRight}
use Rattle.rv_cmd.proofs.Laws.Check.{paths-alike, paths-differ}
use Rattle.rv_cmd.proofs.commands.check.ByPathsTwoSearch.tell.Goals as goal

pub returns-in-Ok-Same-clause-differs : goal.returns-in-Ok-Same-clause-differs
returns-in-Ok-Same-clause-differs c =
    c.told-in-Ok-Same.ensures.differs
    ∙ paths-alike c.args.circuit.now c.args.program.now c.net-net.result.now c.net-net.ensures.value c.lines-lines.result c.lines-lines.ensures.value
    (sym c.line_count-circuit_lines.ensures.value ∙ c.if-circuit_lines-lines.false)
    (subst (IsRight c.args.circuit.now c.net-net.result.now) c.in-Ok-Same.field-0-is c.in-Ok-Same.ensures)

pub returns-in-Ok-Differs-clause-differs : goal.returns-in-Ok-Differs-clause-differs
returns-in-Ok-Differs-clause-differs c =
    paths-differ c.args.circuit.now c.args.program.now c.net-net.result.now c.net-net.ensures.value c.lines-lines.result c.in-Ok-Differs.word
    c.lines-lines.ensures.value (sym c.line_count-circuit_lines.ensures.value ∙ c.if-circuit_lines-lines.false)
    (subst (IsRight c.args.circuit.now c.net-net.result.now) c.in-Ok-Differs.field-0-is c.in-Ok-Differs.ensures).1
