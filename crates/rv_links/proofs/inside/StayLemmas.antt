-- Which nodes stay, with their gates, when one is erased or a window is replaced.
use Rattle.std.proofs.Common.{◌≡◌, ◌≢◌, ℕ, zero, suc, true, false, cond, ◌||◌, eqb, List, [], ◌∷◌, take, refl, sym, ◌∙◌, ap, inl, inr, eq-eqb, ne_eqb}
use Rattle.std.proofs.lemmas.Bool.{cases_eq, cases_Bool, cond-false}
use Rattle.rv_gate.specs.declared.gate.Shape.{Shape}
use Rattle.rv_links.specs.Order.{lists}
use Rattle.rv_links.specs.Nodes.{Node, ids_in, live, node_gate, Stays, erased, with_gates, window_set, from_node, window_ids}
use Rattle.rv_links.proofs.inside.RingLemmas.{lists_not, kept_without}
use Rattle.rv_links.proofs.inside.WindowLemmas.{ids_erased}

-- ---- a node is erased

gate_erased : (x y : ℕ) (nodes : List Node) → y ≢ x → node_gate y (erased x nodes) ≡ node_gate y nodes
unfolding node_gate erased
gate_erased x y [] ne = refl
gate_erased x y (n ∷ rest) ne =
    elim (cases_eq x n.id) [
      | inl e ↦ rw (eq-eqb x n.id e) (sym (cond-false (eqb y n.id) _ _ (ne_eqb y n.id (λ f. ne (f ∙ sym e)))))
      | inr off ↦ rw (ne_eqb x n.id off) (ap (λ g. cond (eqb y n.id) n.gate g) (gate_erased x y rest ne))
    ]

pub stays_erased : (x y : ℕ) (old new : List Node) → y ≢ x → live y old ≡ true → new ≡ erased x old → Stays y old new
stays_erased x y old new ne on e = record {
  is_live = ap (live y) e ∙ ap (lists y) (ids_erased x old) ∙ kept_without x y (ids_in old) ne on;
  gate = ap (node_gate y) e ∙ gate_erased x y old ne;
}

-- ---- a window is replaced

outside : (y c : ℕ) (gates : List Shape) (nodes : List Node) → lists y (take c (ids_in nodes)) ≡ false
    → (live y (with_gates c gates nodes) ≡ live y nodes) × (node_gate y (with_gates c gates nodes) ≡ node_gate y nodes)
unfolding node_gate with_gates
outside y zero gates nodes off = (refl, refl)
outside y (suc c) gates [] off = (refl, refl)
outside y (suc c) [] (n ∷ rest) off =
    let o = lists_not y n.id (take c (ids_in rest)) off in
    let r = outside y c [] rest o.1 in
    rw (ne_eqb y n.id o.0) r
outside y (suc c) (g ∷ gates) (n ∷ rest) off =
    let o = lists_not y n.id (take c (ids_in rest)) off in
    let r = outside y c gates rest o.1 in
    rw (ne_eqb y n.id o.0) r

beside : (y a c : ℕ) (gates : List Shape) (nodes : List Node) → lists y (window_ids a c nodes) ≡ false
    → (live y (window_set a c gates nodes) ≡ live y nodes) × (node_gate y (window_set a c gates nodes) ≡ node_gate y nodes)
unfolding node_gate window_set from_node
beside y a c gates [] off = (refl, refl)
beside y a c gates (n ∷ rest) off =
    elim (cases_Bool (eqb a n.id)) [
      | inl t ↦ rw t (outside y c gates (n ∷ rest) (rw t at off))
      | inr f ↦
          let r = beside y a c gates rest (rw f at off) in
          rw f (ap (λ b. eqb y n.id || b) r.0, ap (λ g. cond (eqb y n.id) n.gate g) r.1)
    ]

pub stays_beside : (y a c : ℕ) (gates : List Shape) (old new : List Node) → live y old ≡ true → lists y (window_ids a c old) ≡ false
    → new ≡ window_set a c gates old → Stays y old new
stays_beside y a c gates old new on off e =
    let r = beside y a c gates old off in
    record { is_live = ap (live y) e ∙ r.0 ∙ on; gate = ap (node_gate y) e ∙ r.1 }
