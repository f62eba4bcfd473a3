use Rattle.std.proofs.Common.{◌∙◌, ◌++◌, List, ap, sym, take}
use Rattle.rv_net.specs.declared.op.Op.{Op}
use Rattle.rv_near.specs.Near.{near_gate, near_ops}
use Rattle.rv_near.proofs.Counting.{near-more}
use Rattle.rv_near.proofs.mapping.ops_of.Goals as goal

pub loop-gate-preserved : goal.loop-gate-preserved
loop-gate-preserved c =
    let gates = c.args.gates.now in
    let i = c.loop-gate.gate-index in
    c.in_ok-add_gate.ensures ∙ ap (λ (ops : List Op). ops ++ near_gate c.gate-item.result) c.loop-gate.invariant
    ∙ ap (λ g. near_ops (take i gates) ++ near_gate g) c.gate-item.is
    ∙ sym (near-more gates i c.gate-item.result c.loop-gate-test.true)
