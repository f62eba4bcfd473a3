use Rattle.std.proofs.Common.{◌≡◌, ◌∙◌, ◌+◌, ℕ, List, ap, ap₂, length, subst, sym}
use Rattle.rv_mct.specs.Blocks.{added}
use Rattle.rv_mct.specs.declared.aux.Aux.{Aux}
use Rattle.rv_gate.specs.Circuit.{Cascade}
use Rattle.rv_net.specs.Op.{IsNetwork, Network}
use Rattle.rv_net.specs.declared.op.Op.{Op}
use Rattle.rv_net.proofs.Networks.{same_network}
use Rattle.rv_ladder.specs.Ladder.{relative_network}
use Rattle.rv_ladder.specs.Relative.{MapsRelative, relative_net}
use Rattle.rv_ladder.proofs.Maps.{maps_relative}
use Rattle.rv_ladder.proofs.mapping.net_of.Goals as goal

-- what is made
made : (aux : Aux) (c : Cascade) (lines extra : ℕ) (ops : List Op) → lines ≡ length c.names → extra ≡ added aux (length c.names) c.gates
    → ops ≡ relative_network aux (length c.names) extra c.gates → ◌≡◌ {A = Network} (record { lines = lines + extra; ops = ops }) (relative_net aux c)
made aux c lines extra ops l e is =
    same_network (lines + extra) _ ops _ (ap₂ (λ a b. a + b) l e) (is ∙ ap (λ k. relative_network aux (length c.names) k c.gates) e)

pub of_ops-requires : goal.of_ops-requires
of_ops-requires c =
    let a = c.args in
    subst IsNetwork (sym (made a.aux a.circuit.now c.line_count-lines.result a.extra c.in_ok-ops.ops.items c.line_count-lines.ensures.value c.requires.added c.in_ok-ops.ensures))
    (maps_relative a.aux a.circuit.now c.recall_invariant.ensures c.requires.lines c.requires.ops).valid

pub returns : goal.returns
returns c =
    let a = c.args in
    subst (MapsRelative a.aux a.circuit.now)
    (sym (c.of_ops.ensures ∙ made a.aux a.circuit.now c.line_count-lines.result a.extra c.in_ok-ops.ops.items c.line_count-lines.ensures.value c.requires.added c.in_ok-ops.ensures))
    (maps_relative a.aux a.circuit.now c.recall_invariant.ensures c.requires.lines c.requires.ops)
