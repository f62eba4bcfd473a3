use Rattle.std.proofs.Common.{◌≡◌, ◌+◌, ◌%◌, List, sym, ◌∙◌, ap}
use Rattle.rv_terms.specs.Products.{parity}
use Rattle.rv_terms.specs.Phases.{total, total_kept}
use Rattle.rv_terms.specs.declared.product.Product.{Product}
use Rattle.rv_terms.specs.declared.kept.Kept.{Kept}
use Rattle.rv_terms.proofs.Powers.{opened_more}
use Rattle.std.proofs.Common.{append-nil}
use Rattle.rv_terms.proofs.phases.Phases.open.Goals as goal

pub loop-kept-preserved : goal.loop-kept-preserved
loop-kept-preserved c x v =
    opened_more c.lift.new.terms.items c.loop-kept.self.terms.items c.loop-kept.self.kept.items c.pop.new.self.items
    c.in-Some.kept _ _ x v c.in-Some.ensures.items (ap (λ (t : List Product). parity t x v) c.deref.ensures.value)
    (c.in_ok-lift.ensures x v) (c.loop-kept.invariant x v)

pub returns : goal.returns
returns c x v =
    let same : c.loop-kept.self.kept.items ≡ c.pop.new.self.items = c.in_default.ensures.items ∙ append-nil _ in
    ap (λ (t : List Kept). (total c.loop-kept.self.terms.items x v + total_kept t x v) % 8) (sym same)
    ∙ c.loop-kept.invariant x v
