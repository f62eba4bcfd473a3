use Rattle.std.proofs.Common.{◌∙◌, ◌+◌, ap, ap₂, arith, sym}
use Rattle.rv_net.specs.Network.{gate_op_count}
use Rattle.rv_net.proofs.Counting.{count_more, operation_count_none}
use Rattle.rv_net.proofs.expanding.operation_count.Goals as goal

pub loop-gate-init : goal.loop-gate-init
loop-gate-init c = (sym operation_count_none, omega arith)

pub loop-gate-preserved : goal.loop-gate-preserved
loop-gate-preserved c = (
  ap₂ (λ a b. a + b) c.loop-gate.invariant.0 (c.gate_op_count-count.ensures.value ∙ ap gate_op_count c.gate-item.is)
      ∙ sym (count_more c.args.gates.now c.loop-gate.gate-index c.gate-item.result c.loop-gate-test.true),
  omega (arith, c.loop-gate.invariant.1, c.gate_op_count-count.ensures.few),
)
