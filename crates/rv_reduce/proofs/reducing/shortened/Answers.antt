use Rattle.std.proofs.Common.{sym, subst}
use Rattle.rv_net.specs.Op.{Network}
use Rattle.rv_reduce.specs.Reduced.{IsReductionOf}
use Rattle.rv_reduce.proofs.Laws.{cancelling-reduces, reduces-twice}
use Rattle.rv_reduce.proofs.reducing.shortened.Goals.{then-goes_on+in_ok-next, else-goes_on}
use Rattle.rv_reduce.proofs.reducing.shortened.Goals as goal

pub loop-init : goal.loop-init
loop-init c = cancelling-reduces c.args.net.now c.in_ok-reduced.reduced c.in_ok-reduced.ensures.cancelled

pub loop-preserved : goal.loop-preserved
loop-preserved c =
    let Reduction : Network → Type 0 = λ n. IsReductionOf c.args.net.now n in
    elim c.if-goes_on.branch [
      | then-goes_on+in_ok-next w ↦
          subst Reduction (sym w.reduced-is) (reduces-twice c.args.net.now c.loop.reduced w.in_ok-next.next c.loop.invariant w.in_ok-next.ensures)
      | else-goes_on w ↦ subst Reduction (sym w.reduced-is) c.loop.invariant
    ]
