use Rattle.std.proofs.Common.{◌+◌, ◌∙◌, ap, arith, length-set}
use Rattle.std.proofs.lemmas.List.{get_or_read}
use Rattle.std.proofs.lemmas.Nat.{le_or_l}
use Rattle.rv_net.specs.Cyclotomic.{nought, times_w_power}
use Rattle.rv_check.proofs.inside.Masks.{masked_end, masked_more, masked_start}
use Rattle.rv_check.proofs.dense.turn_by.Goals as goal

pub loop-place-init : goal.loop-place-init
loop-place-init c = masked_start c.args.mask (times_w_power c.args.power) c.args.values.now

pub loop-place-preserved : goal.loop-place-preserved
loop-place-preserved c =
    masked_more c.args.mask (times_w_power c.args.power) c.args.values.now c.loop-place.values c.loop-place.place c.turned.result c.loop-place-test.true
    (c.turned.ensures ∙ ap (times_w_power c.args.power) (get_or_read c.loop-place.values c.loop-place.place c.index-values-place.result c.loop-place-test.true c.index-values-place.is nought)) c.loop-place.invariant

pub loop-place-smaller : goal.loop-place-smaller
loop-place-smaller c = omega (arith, c.loop-place-test.true, length-set c.loop-place.values c.loop-place.place c.turned.result, le_or_l (c.loop-place.place + 1) c.args.mask)

pub returns : goal.returns
returns c = masked_end c.args.mask c.loop-place.place (times_w_power c.args.power) c.args.values.now c.loop-place.values c.loop-place-test.false c.loop-place.invariant
