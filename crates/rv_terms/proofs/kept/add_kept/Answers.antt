use Rattle.std.proofs.Common.{◌+◌, ◌%◌, Bool, cond, List, refl, sym, ◌∙◌, ap}
use Rattle.rv_terms.specs.Products.{parity, odd}
use Rattle.rv_terms.specs.Phases.{total_kept}
use Rattle.rv_terms.specs.declared.product.Product.{Product}
use Rattle.rv_terms.specs.declared.kept.Kept.{Kept}
use Rattle.rv_terms.proofs.Powers.{kept_pushed}
use Rattle.rv_terms.proofs.kept.add_kept.Goals as goal

pub returns-then-are_same : goal.returns-then-are_same
returns-then-are_same c x v =
    let old = c.loop-at.kept.items in
    c.change.ensures c.index.result.now x v
    ∙ ap (λ (k : Kept). (total_kept old x v + cond (odd k.sum x v) c.args.weight 0) % 8) (sym c.index.ensures)
    ∙ ap (λ (b : Bool). (total_kept old x v + cond b c.args.weight 0) % 8)
    (ap (λ (t : List Product). parity t x v) (sym c.deref.ensures.value) ∙ c.if-are_same.ensures refl x v)
    ∙ ap (λ (t : List Kept). (total_kept t x v + cond (parity c.args.products.now x v) c.args.weight 0) % 8) c.loop-at.invariant

pub returns : goal.returns
returns c x v =
    kept_pushed c.loop-at.kept.items c.push.new.self.items _ (parity c.args.products.now x v) x v
    (ap (λ (t : List Product). parity t x v) c.in_ok-products.ensures.items) c.in_ok-push.ensures.items
    ∙ ap (λ (t : List Kept). (total_kept t x v + cond (parity c.args.products.now x v) c.args.weight 0) % 8) c.loop-at.invariant
