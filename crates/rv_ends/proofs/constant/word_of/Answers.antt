use Rattle.std.proofs.Common.{arith, Bool, List, [], ◌∷◌, ◌++◌, take, sym, ◌∙◌, ap}
use Rattle.rv_ends.specs.Ends.{word_at}
use Rattle.rv_ends.proofs.Ends.{word_at-next, word_at_all}
use Rattle.rv_ends.proofs.constant.word_of.Goals as goal

pub loop-sum-preserved : goal.loop-sum-preserved
loop-sum-preserved c x v =
    let before = word_at (take c.loop-sum.sum-index c.args.sums.now) x v in
    word_at-next c.args.sums.now c.sum-item.result c.loop-sum.sum-index x v c.loop-sum-test.true c.sum-item.is
    ∙ ap (λ (b : Bool). before ++ b ∷ []) (c.in-Some.ensures x v)
    ∙ ap (λ (w : List Bool). w ++ c.in-Some.bit ∷ []) (c.loop-sum.invariant x v)
    ∙ sym c.in_ok-push.ensures.items

pub returns : goal.returns
returns c x v = sym (word_at_all c.args.sums.now c.loop-sum.sum-index x v c.loop-sum-test.false (omega arith)) ∙ c.loop-sum.invariant x v
