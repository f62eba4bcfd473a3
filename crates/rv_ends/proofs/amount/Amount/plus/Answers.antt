use Rattle.std.proofs.Common.{arith}
use Rattle.rv_net.specs.Cyclotomic.{plus}
use Rattle.rv_net.proofs.Cyclotomic.{same_cyclotomic}
use Rattle.std.proofs.lemmas.Int.{ints}
use Rattle.rv_ends.proofs.amount.Amount.plus.Goals as goal

pub returns : goal.returns
unfolding plus
returns c =
    let ea = c.in_ok-a.ensures in
    let eb = c.in_ok-b.ensures in
    let ec = c.in_ok-c.ensures in
    let ed = c.in_ok-d.ensures in
    same_cyclotomic _ _ (omega (arith, ints, ea)) (omega (arith, ints, eb)) (omega (arith, ints, ec)) (omega (arith, ints, ed))
