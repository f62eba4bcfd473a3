use Rattle.std.proofs.Common.{◌∙◌, ◌+◌, ap, ap₂, arith, length, refl, sym, take}
use Rattle.std.proofs.lemmas.List.{length-append}
use Rattle.rv_near.specs.Near.{near_gate, near_ops}
use Rattle.rv_near.proofs.Counting.{near-more}
use Rattle.rv_near.proofs.mapping.count_operations.Goals as goal

pub loop-gate-preserved : goal.loop-gate-preserved
loop-gate-preserved c =
    let gates = c.args.gates.now in
    let i = c.loop-gate.gate-index in (
      ap₂ (λ a b. a + b) c.loop-gate.invariant.0 (c.gate_count-count.ensures.value ∙ ap (λ g. length (near_gate g)) c.gate-item.is)
          ∙ sym (ap length (near-more gates i c.gate-item.result c.loop-gate-test.true) ∙ length-append (near_ops (take i gates)) _),
      omega (arith, c.loop-gate.invariant.1, c.gate_count-count.ensures.few),
    )
