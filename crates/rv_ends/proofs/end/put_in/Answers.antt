use Rattle.std.proofs.Common.{arith, Bool, List, [], ◌∷◌, ◌++◌, take, set, sym, ◌∙◌, ap}
use Rattle.rv_terms.specs.Products.{odd}
use Rattle.rv_terms.specs.declared.sum.Sum.{Sum}
use Rattle.rv_ends.specs.Ends.{word_at}
use Rattle.rv_ends.proofs.Ends.{word_at-next, word_at_all, word_at-append}
use Rattle.rv_ends.proofs.end.put_in.Goals as goal

pub loop-sum-preserved : goal.loop-sum-preserved
loop-sum-preserved c x v lt =
    let u = set v c.args.path (odd c.args.with.now x v) in
    let before = word_at (take c.loop-sum.sum-index c.args.sums.now) x u in
    ap (λ (t : List Sum). word_at t x v) c.in_ok-add.ensures
    ∙ word_at-append c.loop-sum.made.items (c.in_ok-next.next ∷ []) x v
    ∙ ap (λ (w : List Bool). w ++ odd c.in_ok-next.next x v ∷ []) (c.loop-sum.invariant x v lt)
    ∙ ap (λ (b : Bool). before ++ b ∷ []) (c.in_ok-next.ensures x v lt)
    ∙ sym (word_at-next c.args.sums.now c.sum-item.result c.loop-sum.sum-index x u c.loop-sum-test.true c.sum-item.is)

pub returns : goal.returns
returns c x v lt =
    c.loop-sum.invariant x v lt
    ∙ word_at_all c.args.sums.now c.loop-sum.sum-index x (set v c.args.path (odd c.args.with.now x v)) c.loop-sum-test.false (omega arith)
