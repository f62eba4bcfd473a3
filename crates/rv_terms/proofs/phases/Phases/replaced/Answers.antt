use Rattle.std.proofs.Common.{arith, ◌+◌, ◌%◌, List, ◌∙◌, ap}
use Rattle.rv_terms.specs.Products.{parity}
use Rattle.rv_terms.specs.Phases.{total, total_kept}
use Rattle.rv_terms.specs.inside.Put.{IsPut}
use Rattle.rv_terms.specs.declared.product.Product.{Product}
use Rattle.rv_terms.specs.declared.terms.Term.{Term}
use Rattle.rv_terms.specs.declared.kept.Kept.{Kept}
use Rattle.rv_terms.proofs.Powers.{put_term, put_kept, total_all, kept_all}
use Rattle.rv_terms.proofs.phases.Phases.replaced.Goals as goal

pub loop-term-preserved : goal.loop-term-preserved
loop-term-preserved c x v y w put =
    put_term c.deref-term-items.result.now _ c.loop-term.term-index _ _ y w c.loop-term-test.true
    (c.in_ok-add_replaced.ensures x v y w put) (c.loop-term.invariant x v y w put)

pub loop-kept-init : goal.loop-kept-init
loop-kept-init c x v y w put =
    let all = total_all c.deref-term-items.result.now c.loop-term.term-index y w c.loop-term-test.false (omega arith) in
    let same = ap (λ (l : List Term). total l y w) c.deref-term-items.ensures.value in
    omega (arith, all, same, c.loop-term.invariant x v y w put)

pub loop-kept-preserved : goal.loop-kept-preserved
loop-kept-preserved c x v y w put =
    let with : IsPut c.args.bit c.deref-in-loop-kept.result.now x v y w = rw c.deref-in-loop-kept.ensures.value put in
    put_kept c.deref-kept-items.result.now c.kept-item.result c.loop-kept.kept-index _ _ (total c.args.self.now.terms.items y w) _ y w
    c.loop-kept-test.true c.kept-item.is
    (c.in_ok-sum.ensures x v y w with ∙ ap (λ (t : List Product). parity t y w) c.deref.ensures.value)
    (c.in_ok-add_sum.ensures x v) (c.loop-kept.invariant x v y w put)

pub returns : goal.returns
returns c x v y w put =
    let all = kept_all c.deref-kept-items.result.now c.loop-kept.kept-index y w c.loop-kept-test.false (omega arith) in
    let same = ap (λ (l : List Kept). total_kept l y w) c.deref-kept-items.ensures.value in
    c.loop-kept.invariant x v y w put ∙ ap (λ n. (total c.args.self.now.terms.items y w + n) % 8) (all ∙ same)
