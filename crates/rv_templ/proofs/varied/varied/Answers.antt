use Rattle.std.proofs.Common.{sym}
use Rattle.rv_templ.specs.Gates.{gate_in}
use Rattle.rv_templ.specs.inside.Pruning.{varied_at}
use Rattle.rv_templ.proofs.inside.FoldLemmas.{union_none}
use Rattle.rv_templ.proofs.LoopSteps.{gate_read}
use Rattle.rv_templ.proofs.inside.VariedLines.{varied_more}
use Rattle.rv_templ.proofs.varied.varied.Goals as goal

pub loop-j-init : goal.loop-j-init
loop-j-init c = sym (union_none (λ j. varied_at (gate_in c.args.gates.now j) (gate_in c.args.gates.now 0)))

pub loop-j-preserved : goal.loop-j-preserved
loop-j-preserved c =
    varied_more c.args.gates.now c.loop-j.set c.loop-j.j c.varied_at-set.result c.index-gates-j.result c.index-gates-0.result c.loop-j.invariant
    (gate_read c.args.gates.now c.loop-j.j c.index-gates-j.result c.loop-j-test.true c.index-gates-j.is)
    (gate_read c.args.gates.now 0 c.index-gates-0.result c.requires c.index-gates-0.is) c.varied_at-set.ensures
