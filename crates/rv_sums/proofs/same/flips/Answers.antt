use Rattle.std.proofs.Common.{List, length, refl, subst, arith}
use Rattle.rv_gate.specs.declared.gate.Shape.{Shape}
use Rattle.rv_sums.specs.inside.State.{AreFlips}
use Rattle.rv_sums.proofs.inside.Gates.{fits_gate, flips_all, flips_more, flips_none}
use Rattle.rv_mct.specs.Blocks.{flips_of}
use Rattle.rv_sums.proofs.same.flips.Goals as goal

pub loop-gate-init : goal.loop-gate-init
loop-gate-init c =
    flips_none (length c.args.circuit.now.names) c.gates-gate-items.result.now c.new-made.result.items c.new-made.ensures.items

pub loop-gate-preserved : goal.loop-gate-preserved
loop-gate-preserved c =
    let lines = length c.args.circuit.now.names in
    let items = c.gates-gate-items.result.now in
    let gate = c.gate-item.result in
    flips_more lines c.loop-gate.gate-index items c.loop-gate.made.items c.add_flips.new.made.items (flips_of gate) gate
    (omega arith) c.loop-gate-test.true c.gate-item.is c.add_flips.ensures.valid
    (fits_gate lines items c.args.circuit.now.gates c.loop-gate.gate-index gate c.gates-gate-items.ensures c.loop-gate-test.true
    c.gate-item.is c.line_count-lines.ensures.valid.fitting)
    c.in_ok-add_flips.ensures.flips refl c.loop-gate.invariant

pub returns : goal.returns
returns c =
    let lines = length c.args.circuit.now.names in
    subst (λ (l : List Shape). AreFlips lines l c.loop-gate.made.items) c.gates-gate-items.ensures
    (flips_all lines c.loop-gate.gate-index c.gates-gate-items.result.now c.loop-gate.made.items c.loop-gate-test.false c.loop-gate.invariant)
