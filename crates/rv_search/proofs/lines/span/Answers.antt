use Rattle.std.proofs.Common.{ap, ◌∙◌, arith}
use Rattle.std.proofs.lemmas.List.{take_all}
use Rattle.rv_search.specs.Lines.{span}
use Rattle.rv_search.proofs.LineLaws.{span_more, span_none}
use Rattle.rv_search.proofs.lines.span.Goals as goal

pub loop-gate-init : goal.loop-gate-init
loop-gate-init c = span_none c.args.gates.now

pub loop-gate-preserved : goal.loop-gate-preserved
loop-gate-preserved c =
    span_more c.args.gates.now c.loop-gate.gate-index c.gate-item.result c.loop-gate.lines c.touched-lines.result c.loop-gate-test.true c.gate-item.is c.touched-lines.ensures.set c.loop-gate.invariant

pub returns : goal.returns
returns c =
    let past = c.loop-gate-test.false in
    c.loop-gate.invariant ∙ ap span (take_all c.loop-gate.gate-index c.args.gates.now (omega arith))
