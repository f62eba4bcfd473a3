use Rattle.std.proofs.Common.{ℕ, All, List, sym, ◌∙◌, subst}
use Rattle.rv_gate.specs.Every.{Every}
use Rattle.rv_gate.specs.Gate.{IsFlipOn}
use Rattle.rv_gate.specs.declared.gate.Shape.{Shape}
use Rattle.rv_net.specs.Op.{OpFitsIn}
use Rattle.rv_net.specs.declared.op.Op.{Op}
use Rattle.rv_sums.proofs.inside.Ends.{same_right}
use Rattle.rv_sums.proofs.by_paths.are_same.Goals as goal

pub is_same-requires-clause-fits : goal.is_same-requires-clause-fits
is_same-requires-clause-fits c =
    let net = c.args.net.now in
    let lines = c.lines-lines.result in
    subst (λ (l : List Op). All (λ op. OpFitsIn op lines) l) (sym c.ops.ensures)
    (subst (λ (n : ℕ). All (λ op. OpFitsIn op n) net.ops) (sym c.lines-lines.ensures.value) c.lines-lines.ensures.valid.fitting)

pub is_same-requires-clause-each : goal.is_same-requires-clause-each
is_same-requires-clause-each c =
    let lines = c.lines-lines.result in
    subst (λ (l : List Shape). Every (IsFlipOn lines) l) (sym c.deref.ensures.value)
    (subst (λ (n : ℕ). Every (IsFlipOn n) c.in_ok-flips.flips.items) (c.requires ∙ sym c.lines-lines.ensures.value) c.in_ok-flips.ensures.each)

pub returns : goal.returns
returns c on =
    same_right c.args.marks.now c.args.circuit.now c.args.net.now c.lines-lines.result c.ops.result.now c.deref.result.now c.in_ok-flips.flips.items
    c.lines-lines.ensures.value c.ops.ensures c.deref.ensures.value c.requires c.in_ok-flips.ensures (c.in_ok-same.ensures on)
