use Rattle.std.proofs.Common.{get_or, take, subst, sym, ◌∙◌}
use Rattle.std.specs.Prelude.{All}
use Rattle.std.proofs.lemmas.List.{take_all, take_more}
use Rattle.std.proofs.lemmas.List.Elements.{All-push}
use Rattle.rv_gate.specs.Gate.{IsFlip}
use Rattle.rv_esop.proofs.cost.are_flips.Goals as goal

pub loop-gate-preserved : goal.loop-gate-preserved
loop-gate-preserved c =
    let gates = c.args.gates.now in
    let k = c.loop-gate.gate-index in
    let gate = c.gate-item.result in
    subst (All IsFlip) (sym (take_more gates k gate c.loop-gate-test.true))
    (All-push IsFlip (take k gates) (get_or gates k gate) c.loop-gate.invariant
    (subst IsFlip c.gate-item.is (sym c.is_flip.ensures ∙ c.if-not-is_flip.false)))

pub returns-clause-flips : goal.returns-clause-flips
returns-clause-flips c on =
    subst (All IsFlip) (take_all c.loop-gate.gate-index c.args.gates.now c.loop-gate-test.false) c.loop-gate.invariant
