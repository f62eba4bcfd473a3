use Rattle.std.proofs.Common.{◌<◌, length, arith, refl}
use Rattle.rv_cost.specs.CircuitCost.{quantum_cost}
use Rattle.rv_mct.proofs.inside.Steps.{sum_by_next}
use Rattle.rv_price.proofs.pricing.quantum_sum.Goals as goal

pub loop-gate-init : goal.loop-gate-init
loop-gate-init c = record { so_far = refl; few = omega arith }

pub loop-gate-preserved : goal.loop-gate-preserved
loop-gate-preserved c =
    let s = c.loop-gate.invariant.so_far in
    let f = c.loop-gate.invariant.few in
    let h : c.loop-gate.gate-index < length c.args.gates.now = omega arith in
    let n = sum_by_next quantum_cost c.args.gates.now c.loop-gate.gate-index c.gate-item.result h c.gate-item.is in
    let e = c.quantum_cost-sum.ensures.value in
    let b = c.quantum_cost-sum.ensures.few in
    record { so_far = omega arith; few = omega arith }
