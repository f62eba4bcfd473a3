use Rattle.std.proofs.Common.{arith, List, refl, ◌∙◌, ap}
use Rattle.rv_terms.specs.Phases.{total_kept}
use Rattle.rv_terms.specs.declared.kept.Kept.{Kept}
use Rattle.rv_terms.proofs.Powers.{copied_more, kept_all}
use Rattle.rv_terms.proofs.kept.copies.Goals as goal

pub loop-one-preserved : goal.loop-one-preserved
loop-one-preserved c x v =
    ap (λ (t : List Kept). total_kept t x v) c.in_ok-push.ensures.items
    ∙ copied_more c.args.kept.now c.loop-one.made.items c.one-item.result _ c.loop-one.one-index x v c.loop-one-test.true c.one-item.is
    refl (c.in_ok-sum.ensures x v) (c.loop-one.invariant x v)

pub returns : goal.returns
returns c x v =
    c.loop-one.invariant x v ∙ kept_all c.args.kept.now c.loop-one.one-index x v c.loop-one-test.false (omega arith)
