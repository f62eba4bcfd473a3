use Rattle.std.proofs.Common.{◌≡◌, true, refl, sym, ◌∙◌, ap}
use Rattle.rv_gate.specs.Commuting.{rule}
use Rattle.rv_links.specs.Order.{lists}
use Rattle.rv_links.specs.inside.Chains.{gate_at}
use Rattle.rv_links.proofs.inside.LinkedLemmas.{on_by, gate_by}
use Rattle.rv_links.proofs.linked.Linked.commutes_with_all.Goals as goal

pub returns : goal.returns
returns c free id live =
    let on : lists id c.self.inside.order.ids ≡ true = on_by _ _ c.self.view_is refl live in
    ap (rule c.args.gate) (sym (gate_by _ _ c.self.view_is refl on refl))
    ∙ c.is_free.ensures free (gate_at c.self.inside.gates.items id) (c.self.invariant.1 id (c.self.invariant.0.below id on))
