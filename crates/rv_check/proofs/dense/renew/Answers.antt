use Rattle.std.proofs.Common.{◌^◌, arith}
use Rattle.rv_check.proofs.inside.Shifts.{all_small}
use Rattle.rv_check.proofs.dense.renew.Goals as goal

pub returns-then-scale-le-MOST_BITS-clause-small : goal.returns-then-scale-le-MOST_BITS-clause-small
returns-then-scale-le-MOST_BITS-clause-small c =
    all_small c.bits_in_all.result (2 ^ c.width-scale.result) c.reduce-scale.new.values c.bits_in_all.ensures (omega (arith, c.width-scale.ensures))

pub returns-else-scale-le-MOST_BITS-clause-small : goal.returns-else-scale-le-MOST_BITS-clause-small
returns-else-scale-le-MOST_BITS-clause-small c =
    all_small c.bits_in_all.result (2 ^ c.width-scale.result) c.reduce-scale.new.values c.bits_in_all.ensures (omega (arith, c.width-scale.ensures))
