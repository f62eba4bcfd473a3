use Rattle.std.proofs.Common.{ap, ◌∙◌, Bool, drop, ◌+◌}
use Rattle.rv_gate.specs.Word.{word_with}
use Rattle.rv_gate.specs.Gate.{xor}
use Rattle.rv_compute.specs.inside.Sums.{sum_of}
use Rattle.rv_compute.proofs.inside.Summing.{sum_more, sum_done, xor-beq}
use Rattle.rv_compute.proofs.sum.sum_at.Goals as goal

pub loop-product-preserved : goal.loop-product-preserved
loop-product-preserved c =
    let word = word_with c.args.count c.args.set in
    let rest = sum_of (drop (c.loop-product.product-index + 1) c.args.products.now) word in
    ap (λ (b : Bool). xor b rest) (xor-beq c.loop-product.sum c.holds_at-sum.result)
    ∙ ap (λ (h : Bool). xor (xor c.loop-product.sum h) rest) c.holds_at-sum.ensures
    ∙ sum_more c.args.products.now c.loop-product.product-index _ word c.loop-product.sum _ c.loop-product-test.true
    c.loop-product.invariant

pub returns : goal.returns
returns c =
    sum_done c.args.products.now c.loop-product.product-index (word_with c.args.count c.args.set) c.loop-product.sum _
    c.loop-product-test.false c.loop-product.invariant
