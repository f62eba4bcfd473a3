use Rattle.std.proofs.Common.{sym, ◌∙◌}
use Rattle.rv_gate.specs.Word.{word_with}
use Rattle.rv_compute.proofs.inside.Summing.{any_here}
use Rattle.rv_compute.proofs.sum.any_holds_at.Goals as goal

pub returns-then-holds_at : goal.returns-then-holds_at
returns-then-holds_at c =
    any_here c.args.products.now c.loop-product.product-index _ (word_with c.args.count c.args.set) _
    c.loop-product-test.true c.loop-product.invariant (sym c.holds_at.ensures ∙ c.if-holds_at.true)
