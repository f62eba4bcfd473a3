use Rattle.std.proofs.Common.{◌∙◌, ap, length, sym}
use Rattle.rv_blif.specs.Placing.{Placing, all_placed}
use Rattle.rv_blif.proofs.PlacingLaws.{placing_more}
use Rattle.rv_blif.proofs.placing.Placing.add.Goals as goal

pub invariant_of-self-then-all_placed : goal.invariant_of-self-then-all_placed
invariant_of-self-then-all_placed c =
    let cover = c.args.cover.now in
    let placed =
    ap (λ s. all_placed s cover.node.operands) (sym c.deref.ensures.value)
    ∙ ap (all_placed c.deref.result.now) (sym c.operands.ensures.value)
    ∙ sym c.all_placed.ensures
    ∙ c.if-all_placed.true in
    let count = c.node_count.ensures ∙ ap (λ (p : Placing). length p.nodes) (sym c.self.view_is) in
    rw (c.set_signal.ensures, c.in_ok-push.ensures.items, c.name.ensures, c.in_ok-node.ensures, c.deref-then-all_placed.ensures.value, count)
    (placing_more (record { inputs = c.self.inside.inputs; signals = c.self.inside.signals.items; nodes = c.self.inside.nodes.items; left = c.self.inside.left.items }) cover
    c.self.invariant c.operands.ensures.valid placed)
