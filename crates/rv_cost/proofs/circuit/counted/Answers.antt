use Rattle.std.proofs.Common.{rules, sym, arith, refl}
use Rattle.rv_gate.proofs.Greatest.{greatest_none, greatest_next}
use Rattle.rv_mct.proofs.inside.Steps.{sum_by_next}
use Rattle.rv_cost.proofs.Tasks.{tasks_next}
use Rattle.rv_cost.specs.CircuitCost.{counted_controls, quantum_cost}
use Rattle.rv_cost.proofs.circuit.counted.Goals as goal

pub loop-gate-init : goal.loop-gate-init
loop-gate-init c = record {
  controls = sym (greatest_none counted_controls);
  quantum = refl;
  few = omega arith;
  levelled = search rules;
  low = omega arith;
}

pub loop-gate-preserved : goal.loop-gate-preserved
loop-gate-preserved c =
    let before = c.loop-gate.invariant in
    let controls = greatest_next counted_controls c.args.gates.now c.loop-gate.gate-index c.gate-item.result c.loop-gate-test.true c.gate-item.is in
    let cost = sum_by_next quantum_cost c.args.gates.now c.loop-gate.gate-index c.gate-item.result c.loop-gate-test.true c.gate-item.is in
    let number = c.counted_controls.ensures in
    let most = c.max-most.ensures in
    let value = c.quantum_cost-quantum.ensures.value in
    let low = c.quantum_cost-quantum.ensures.few in
    record {
      controls = omega arith;
      quantum = omega arith;
      few = omega arith;
      levelled = rw (tasks_next c.args.gates.now c.loop-gate.gate-index c.gate-item.result c.loop-gate-test.true c.gate-item.is, ← c.touched.ensures.set) (c.add.ensures.added _ before.levelled);
      low = (let added = c.add.ensures.few in omega arith);
    }
