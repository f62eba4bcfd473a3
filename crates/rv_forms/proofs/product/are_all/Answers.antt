use Rattle.std.proofs.Common.{rules, [], ◌∷◌}
use Rattle.rv_forms.proofs.Products.{ask_more, one_of}
use Rattle.rv_forms.proofs.product.are_all.Goals as goal

pub loop-form-preserved : goal.loop-form-preserved
loop-form-preserved c =
    ask_more (c.args.other.now ∷ []) c.args.forms.now c.loop-form.form-index c.form-item.result c.loop-form-test.true
    c.form-item.is (λ bits on. c.is_one_with.ensures (search rules) bits (one_of bits c.args.other.now on))
    c.loop-form.invariant
