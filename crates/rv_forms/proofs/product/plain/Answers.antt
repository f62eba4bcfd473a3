use Rattle.std.proofs.Common.{rules}
use Rattle.rv_forms.proofs.Products.{all_are}
use Rattle.rv_forms.proofs.product.plain.Goals as goal

pub returns-then-are_all : goal.returns-then-are_all
returns-then-are_all c bits =
    all_are bits c.args.literals.now c.loop-k.k c.index-literals-k.result c.in_ok-form.form c.loop-k-test.true
    c.index-literals-k.is (c.are_all.ensures (search rules)) c.in_ok-form.ensures
