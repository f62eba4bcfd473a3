use Rattle.std.proofs.Common.{rules, arith, ◌%◌, cond, List, sym, ◌∙◌, ap}
use Rattle.rv_terms.specs.Products.{parity}
use Rattle.rv_terms.specs.Phases.{total}
use Rattle.rv_terms.specs.declared.product.Product.{Product}
use Rattle.rv_terms.specs.declared.terms.Term.{Term}
use Rattle.rv_terms.proofs.Powers.{sign_more, total_all, no_kept}
use Rattle.rv_terms.proofs.phases.Phases.signs.Goals as goal

pub loop-term-init : goal.loop-term-init
loop-term-init c x v = ap (λ (t : List Product). cond (parity t x v) 4 0) (sym c.new-made.ensures.items)

pub loop-term-preserved : goal.loop-term-preserved
loop-term-preserved c x v =
    sign_more c.deref-term-items.result.now c.loop-term.made.items _ c.loop-term.term-index x v c.loop-term-test.true
    c.if-term-ne4.false (c.loop-term.invariant x v)
    ∙ ap (λ (t : List Product). cond (parity t x v) 4 0) (sym c.in_ok-push.ensures.items)

pub returns : goal.returns
returns c x v =
    no_kept c.args.self.now.kept.items _ x v (search rules)
    ∙ ap (λ (l : List Term). total l x v % 8) (sym c.deref-term-items.ensures.value)
    ∙ ap (λ n. n % 8) (sym (total_all c.deref-term-items.result.now c.loop-term.term-index x v c.loop-term-test.false (omega arith)))
    ∙ c.loop-term.invariant x v
    ∙ ap (λ b. cond b 4 0) (sym (c.in_ok-sum.ensures x v))
