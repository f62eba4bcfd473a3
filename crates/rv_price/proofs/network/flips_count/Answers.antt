use Rattle.std.proofs.Common.{◌<◌, length, arith, refl}
use Rattle.rv_price.specs.Price.{flip_count}
use Rattle.rv_mct.proofs.inside.Steps.{sum_by_next}
use Rattle.rv_price.proofs.network.flips_count.Goals as goal

pub loop-flip-init : goal.loop-flip-init
loop-flip-init c = record { so_far = refl; few = omega arith }

pub loop-flip-preserved : goal.loop-flip-preserved
loop-flip-preserved c =
    let s = c.loop-flip.invariant.so_far in
    let f = c.loop-flip.invariant.few in
    let h : c.loop-flip.flip-index < length c.args.flips.now = omega arith in
    let n = sum_by_next (flip_count c.args.goal) c.args.flips.now c.loop-flip.flip-index c.flip-item.result h c.flip-item.is in
    let e = c.flip_count-count.ensures.value in
    let b = c.flip_count-count.ensures.few in
    record { so_far = omega arith; few = omega arith }
