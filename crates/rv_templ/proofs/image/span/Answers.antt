use Rattle.std.proofs.Common.{sym}
use Rattle.rv_templ.specs.Gates.{gate_in}
use Rattle.rv_gate.specs.Gate.{touched}
use Rattle.rv_templ.proofs.inside.FoldLemmas.{union_none}
use Rattle.rv_templ.proofs.LoopSteps.{span_more}
use Rattle.rv_templ.proofs.image.span.Goals as goal

pub loop-j-init : goal.loop-j-init
loop-j-init c = sym (union_none (λ j. touched (gate_in c.args.gates.now j)))

pub loop-j-preserved : goal.loop-j-preserved
loop-j-preserved c =
    span_more c.args.gates.now c.loop-j.set c.loop-j.j c.touched-set.result c.index-gates-j.result c.loop-j.invariant c.loop-j-test.true c.index-gates-j.is c.touched-set.ensures.set
