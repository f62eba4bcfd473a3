use Rattle.std.proofs.Common.{◌≡◌, ap, arith, length, subst}
use Rattle.rv_fold.specs.inside.Standing.{AreSums}
use Rattle.rv_fold.proofs.walk.Walk.sums_of.Goals as goal

pub returns : goal.returns
returns c =
    let net = c.args.net.now in
    let all : c.loop-place.place ≡ length net.ops = omega (arith, c.loop-place-test.false, c.loop-place.auto.place-end, ap length c.ops-place-end.ensures) in
    subst (λ k. AreSums net.lines net.ops k c.loop-place.walk.sums.items) all c.loop-place.invariant.sums
