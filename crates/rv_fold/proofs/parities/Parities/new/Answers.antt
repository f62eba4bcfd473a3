use Rattle.std.proofs.Common.{◌∷◌, [], ◌∙◌, sym, ap, arith, length, subst, length-append}
use Rattle.rv_fold.specs.Parities.{Parities}
use Rattle.rv_fold.specs.inside.Mixed.{AreMixed}
use Rattle.rv_fold.proofs.inside.Mixed.{mixed_none}
use Rattle.rv_fold.proofs.inside.ParityLists.{alone_more}
use Rattle.rv_fold.specs.inside.Shown.{parities_of}
use Rattle.rv_fold.proofs.parities.Parities.new.Goals as goal

pub loop-line-preserved : goal.loop-line-preserved
loop-line-preserved c =
    let items = c.in_ok-push.ensures.items in (
      ap parities_of items ∙ alone_more c.loop-line.parities.items c.loop-line.line c.alone.result c.loop-line.invariant.1 c.alone.ensures c.loop-line.invariant.0,
      omega (arith, ap length items, length-append c.loop-line.parities.items (c.alone.result ∷ []), c.loop-line.invariant.1),
    )

pub invariant_of-result-clause-are_mixed : goal.invariant_of-result-clause-are_mixed
invariant_of-result-clause-are_mixed c =
    subst (λ (f : Parities). AreMixed (length c.loop-line.parities.items) f 0) (sym c.loop-line.invariant.0) (mixed_none (length c.loop-line.parities.items))
