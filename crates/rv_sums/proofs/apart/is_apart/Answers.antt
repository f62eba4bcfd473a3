use Rattle.std.proofs.Common.{length, ap, ◌∙◌, arith}
use Rattle.rv_sums.proofs.inside.Words.{apart_differs}
use Rattle.rv_sums.proofs.apart.is_apart.Goals as goal

pub returns : goal.returns
returns c on word ops same len reached =
    apart_differs word c.args.image c.deref-3.result.now ops c.args.state.now c.deref.result.now c.deref-2.result.now c.len-2.result _
    c.in-Some.sum c.in-Some-roots_of.asked reached len c.deref.ensures.value (c.deref-3.ensures.value ∙ c.in_ok-bits.ensures)
    (omega (arith, ap length c.deref-2.ensures.value, c.len-2.ensures)) (rw c.in-Some.is at c.in_ok-sum.ensures)
    c.in-Some-roots_of.ensures (omega (arith, same)) (c.are_others.ensures on)
