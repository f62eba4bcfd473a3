use Rattle.std.proofs.Common.{arith}
use Rattle.rv_qasm.proofs.inside.GateLaws.{agree, disagree}
use Rattle.rv_qasm.proofs.apply.sizes_agree.Goals as goal

pub returns-then-range-count : goal.returns-then-range-count
returns-then-range-count c =
    disagree c.args.operands.now c.loop-range.range-index c.repeats-count.result _ c.repeats-count.ensures c.loop-range-test.true c.if-range.true c.if-range-count.true

pub returns : goal.returns
returns c = agree c.args.operands.now c.loop-range.range-index c.repeats-count.result c.repeats-count.ensures (omega arith) c.loop-range.invariant
