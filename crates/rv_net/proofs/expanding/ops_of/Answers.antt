use Rattle.std.proofs.Common.{◌∙◌, ◌++◌, List, ap, sym, take}
use Rattle.rv_net.specs.declared.op.Op.{Op}
use Rattle.rv_net.specs.Network.{gate_ops, network_of}
use Rattle.rv_net.proofs.Counting.{network_more, network_none}
use Rattle.rv_net.proofs.expanding.ops_of.Goals as goal

pub loop-gate-init : goal.loop-gate-init
loop-gate-init c = c.in_ok-ops.ensures.items ∙ sym network_none

pub loop-gate-preserved : goal.loop-gate-preserved
loop-gate-preserved c =
    c.in_ok-add_gate.ensures ∙ ap (λ (ops : List Op). ops ++ gate_ops c.gate-item.result) c.loop-gate.invariant
    ∙ ap (λ g. network_of (take c.loop-gate.gate-index c.args.gates.now) ++ gate_ops g) c.gate-item.is
    ∙ sym (network_more c.args.gates.now c.loop-gate.gate-index c.gate-item.result c.loop-gate-test.true)
