use Rattle.std.proofs.Common.{arith, ap, length, sym, ◌∙◌}
use Rattle.rv_cmd.proofs.Laws.CheckNetworks.{answer-differs, answer-made, networks-answer, networks-by-lines}
use Rattle.rv_cmd.proofs.commands.check_networks.OfNetworksTwoSearch.tell.Goals as goal

pub returns-then-lines-others-clause-differs : goal.returns-then-lines-others-clause-differs
returns-then-lines-others-clause-differs c =
    (networks-by-lines c.args.first.now c.args.second.now c.net-a.result.now c.net-b.result.now c.net-a.ensures.value c.net-b.ensures.value
    (omega (arith, c.if-count-gt-MOST_OPS.false, ap length c.ops.ensures, ap length c.ops-2.ensures)) c.lines-lines.result c.lines-others.result
    c.lines-lines.ensures.value c.lines-others.ensures.value c.if-lines-others.true c.told.result c.told.ensures.product c.told.ensures.differs).differs

pub returns-in-Ok-clause-made : goal.returns-in-Ok-clause-made
returns-in-Ok-clause-made c =
    answer-made c.args.first.now c.args.second.now c.told_finding.result
    (networks-answer c.args.first.now c.args.second.now c.net-a.result.now c.net-b.result.now c.net-a.ensures.value c.net-b.ensures.value
    (omega (arith, c.if-count-gt-MOST_OPS.false, ap length c.ops.ensures, ap length c.ops-2.ensures)) c.lines-lines.result c.lines-lines.ensures.value
    (sym c.lines-lines.ensures.value ∙ c.if-lines-others.false ∙ c.lines-others.ensures.value) c.in-Ok.finding c.in-Ok.ensures c.told_finding.result
    c.told_finding.ensures)

pub returns-in-Ok-clause-differs : goal.returns-in-Ok-clause-differs
returns-in-Ok-clause-differs c =
    answer-differs c.args.first.now c.args.second.now c.told_finding.result
    (networks-answer c.args.first.now c.args.second.now c.net-a.result.now c.net-b.result.now c.net-a.ensures.value c.net-b.ensures.value
    (omega (arith, c.if-count-gt-MOST_OPS.false, ap length c.ops.ensures, ap length c.ops-2.ensures)) c.lines-lines.result c.lines-lines.ensures.value
    (sym c.lines-lines.ensures.value ∙ c.if-lines-others.false ∙ c.lines-others.ensures.value) c.in-Ok.finding c.in-Ok.ensures c.told_finding.result
    c.told_finding.ensures)
