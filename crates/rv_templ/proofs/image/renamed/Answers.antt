use Rattle.std.proofs.Common.{sym, ◌∙◌}
use Rattle.rv_templ.proofs.inside.FoldLemmas.{union_none}
use Rattle.rv_templ.proofs.LoopSteps.{place, renamed_on, renamed_off}
use Rattle.rv_templ.proofs.image.renamed.Goals as goal
use Rattle.rv_templ.proofs.image.renamed.Goals.{then-there, else-there}

pub loop-i-init : goal.loop-i-init
loop-i-init c = sym (union_none (place c.args.to c.args.set))

pub loop-i-preserved : goal.loop-i-preserved
loop-i-preserved c =
    elim c.if-there.branch [
      | then-there w ↦ w.lines-is ∙ renamed_on c.args.to c.args.set c.loop-i.lines c.loop-i.i c.loop-i.invariant (sym c.has-there.ensures ∙ w.if-there.true) (c.requires c.loop-i.i c.loop-i-test.true)
      | else-there w ↦ w.lines-is ∙ renamed_off c.args.to c.args.set c.loop-i.lines c.loop-i.i c.loop-i.invariant (sym c.has-there.ensures ∙ w.if-there.false)
    ]
