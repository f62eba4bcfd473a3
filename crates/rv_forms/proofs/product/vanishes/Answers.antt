use Rattle.std.proofs.Common.{rules}
use Rattle.rv_forms.proofs.Products.{vanishes_at, vanishes_by}
use Rattle.rv_forms.proofs.product.vanishes.Goals as goal

pub returns-then-is_constant : goal.returns-then-is_constant
returns-then-is_constant c on bits =
    vanishes_at bits c.args.forms.now c.loop-k.k c.index-forms-k.result c.loop-k-test.true c.index-forms-k.is
    (c.is_constant.ensures (search rules) bits)

pub returns-then-are_opposite : goal.returns-then-are_opposite
returns-then-are_opposite c on bits =
    vanishes_by bits c.args.forms.now c.loop-k.k c.loop-j.j c.index-forms-k-in-loop-j.result c.index-forms-j.result
    c.loop-k-test.true (search rules) c.index-forms-k-in-loop-j.is c.index-forms-j.is
    (c.are_opposite.ensures (search rules) bits)
