use Rattle.std.proofs.Common.{◌<◌, length, arith, refl}
use Rattle.rv_price.specs.Price.{gate_count}
use Rattle.rv_mct.proofs.inside.Steps.{sum_by_next}
use Rattle.rv_price.proofs.network.gates_count.Goals as goal

pub loop-gate-init : goal.loop-gate-init
loop-gate-init c = record { so_far = refl; few = omega arith }

pub loop-gate-preserved : goal.loop-gate-preserved
loop-gate-preserved c =
    let s = c.loop-gate.invariant.so_far in
    let f = c.loop-gate.invariant.few in
    let h : c.loop-gate.gate-index < length c.args.gates.now = omega arith in
    let n = sum_by_next (gate_count c.args.goal) c.args.gates.now c.loop-gate.gate-index c.gate-item.result h c.gate-item.is in
    let e = c.gate_count-count.ensures.value in
    let b = c.gate_count-count.ensures.few in
    record { so_far = omega arith; few = omega arith }
