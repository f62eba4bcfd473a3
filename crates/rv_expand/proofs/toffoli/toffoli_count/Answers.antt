use Rattle.std.proofs.Common.{arith}
use Rattle.rv_expand.proofs.Steps.{none-left}
use Rattle.rv_expand.proofs.toffoli.toffoli_count.Goals as goal

pub returns : goal.returns
returns c =
    omega (arith, c.loop-place.invariant.so_far, none-left c.args.gates.now c.loop-place.place (omega (arith, c.loop-place-test.false)))
