use Rattle.std.proofs.Common.{◌≡◌, true, refl, ◌∙◌, ap}
use Rattle.rv_gate.specs.Word.{has}
use Rattle.rv_gate.specs.Gate.{controls, is_flip}
use Rattle.rv_links.specs.Order.{lists}
use Rattle.rv_links.proofs.inside.LinkedLemmas.{on_by, gate_by}
use Rattle.rv_links.proofs.inside.UsedLemmas.{controls_read}
use Rattle.rv_links.proofs.linked.Linked.read_lines.Goals as goal

pub returns : goal.returns
returns c id line live flip on =
    let here : lists id c.self.inside.order.ids ≡ true = on_by _ _ c.self.view_is refl live in
    let g = gate_by _ _ c.self.view_is refl here refl in
    controls_read _ _ _ line (c.self.invariant.1 id (c.self.invariant.0.below id here)) (ap is_flip g ∙ flip) (ap (λ h. has (controls h) line) g ∙ on)
