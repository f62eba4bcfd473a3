use Rattle.std.proofs.Common.{sym}
use Rattle.rv_templ.specs.Gates.{gate_in}
use Rattle.rv_templ.specs.Images.{turned}
use Rattle.rv_templ.specs.inside.Pruning.{varied_at}
use Rattle.rv_templ.proofs.inside.FoldLemmas.{union_none}
use Rattle.rv_templ.proofs.inside.VariedLines.{varied_more}
use Rattle.rv_templ.proofs.varied.varied_turned.Goals as goal

pub loop-j-init : goal.loop-j-init
loop-j-init c = sym (union_none (λ j. varied_at (gate_in (turned c.args.r c.args.gates.now) j) (gate_in (turned c.args.r c.args.gates.now) 0)))

pub loop-j-preserved : goal.loop-j-preserved
loop-j-preserved c =
    varied_more (turned c.args.r c.args.gates.now) c.loop-j.set c.loop-j.j c.varied_at-set.result c.turned_gate.result c.turned_gate-first.result c.loop-j.invariant
    c.turned_gate.ensures c.turned_gate-first.ensures c.varied_at-set.ensures
