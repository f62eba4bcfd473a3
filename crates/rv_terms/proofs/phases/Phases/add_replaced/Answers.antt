use Rattle.std.proofs.Common.{◌+◌, ◌%◌, ◌&&◌, cond, sym, ◌∙◌, ap}
use Rattle.rv_terms.specs.Products.{value, parity}
use Rattle.rv_terms.specs.Phases.{power}
use Rattle.rv_terms.specs.declared.product.Product.{Product}
use Rattle.rv_terms.proofs.Puts.{put_on, put_off}
use Rattle.rv_terms.proofs.phases.Phases.add_replaced.Goals as goal

pub returns-in_ok-add : goal.returns-in_ok-add
returns-in_ok-add c x v y w put =
    let old = power c.args.self.now x v in
    c.in_ok-add.ensures x v
    ∙ ap (λ b. (old + cond b c.args.term.weight 0) % 8)
    (sym (put_off c.args.term.product c.args.bit c.args.with.now.products.items x v y w (sym c.meets.ensures ∙ c.if-meets.false) put))

pub returns-in_ok-add_sum : goal.returns-in_ok-add_sum
returns-in_ok-add_sum c x v y w put =
    let old = power c.args.self.now x v in
    let with = c.args.with.now.products.items in
    c.in_ok-add_sum.ensures x v
    ∙ ap (λ b. (old + cond b c.args.term.weight 0) % 8)
    (c.in_ok-sum.ensures x v ∙ ap (λ (p : Product). value p x v && parity with x v) c.less.ensures
    ∙ sym (put_on c.args.term.product c.args.bit with x v y w (sym c.meets.ensures ∙ c.if-meets.true) put))
