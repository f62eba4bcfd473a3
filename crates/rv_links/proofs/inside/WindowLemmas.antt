-- Linked cascades through the numbers of their nodes: a window is replaced, and how many lines gates touch.
use Rattle.std.proofs.Common.{◌≡◌, ◌≢◌, ℕ, zero, suc, ◌+◌, ◌-◌, ◌<◌, ◌≤◌, true, false, eqb, List, [], ◌∷◌, ◌++◌, length, get_or, take, drop, refl, sym, ◌∙◌, ap, inl, inr, arith, append_assoc, zero-add, eq-eqb, ne_eqb}
use Rattle.std.proofs.lemmas.List.Elements.{All-map}
use Rattle.std.specs.Prelude.{All, IfSome, Option, Some, None}
use Rattle.std.proofs.lemmas.List.{length-map, drop_more, drop_all}
use Rattle.std.proofs.lemmas.Bool.{cases_eq, cases_Bool, cond-true, cond-false, false≢true}
use Rattle.rv_gate.specs.declared.gate.Shape.{Shape}
use Rattle.rv_gate.specs.Gate.{FitsIn, IsGate}
use Rattle.rv_gate.specs.Circuit.{Cascade, IsCascade}
use Rattle.rv_links.specs.Order.{lists, head, next_in, NoTwice, Rising}
use Rattle.rv_links.specs.inside.Ring.{Order, without, rest_after}
use Rattle.rv_links.specs.Nodes.{Node, Linkage, IsLinkage, ids_in, gates_in, live, node_gate, erased, regated, with_gates, window_set, from_node, incidence, incidences, window_gates}
use Rattle.rv_links.specs.inside.Chains.{blank, gate_at, nodes_of, IsLinked, finish, nodes_from}
use Rattle.rv_links.proofs.inside.RingLemmas.{get_lists, lists_here, lists_cases, lists_not, differ_from, kept_without, ids_few}
use Rattle.rv_links.proofs.inside.LinkedLemmas.{ids_of_nodes, after_step, head_listed, after_differs}

-- ---- a window is replaced, node by node

pub ids_regated : (x : ℕ) (g : Shape) (nodes : List Node) → ids_in (regated x g nodes) ≡ ids_in nodes
unfolding regated
ids_regated x g [] = refl
ids_regated x g (n ∷ rest) =
    elim (cases_Bool (eqb x n.id)) [ inl t ↦ rw t refl | inr f ↦ rw f (ap (λ l. n.id ∷ l) (ids_regated x g rest)) ]

pub ids_erased : (x : ℕ) (nodes : List Node) → ids_in (erased x nodes) ≡ without x (ids_in nodes)
unfolding erased without
ids_erased x [] = refl
ids_erased x (n ∷ rest) =
    elim (cases_Bool (eqb x n.id)) [ inl t ↦ rw t refl | inr f ↦ rw f (ap (λ l. n.id ∷ l) (ids_erased x rest)) ]

no_rest : (c : ℕ) (gates : List Shape) → with_gates c gates [] ≡ []
unfolding with_gates
no_rest zero gates = refl
no_rest (suc c) gates = refl

-- the next node of a list takes over
take_over : (c : ℕ) (gates : List Shape) (n : Node) (rest : List Node) → lists n.id (ids_in rest) ≡ false
    → n ∷ with_gates c gates rest ≡ finish (head (ids_in rest)) c gates (n ∷ rest)
unfolding window_set
take_over c gates n [] off = ap (λ l. n ∷ l) (no_rest c gates)
take_over c gates n (m ∷ ms) off =
    let o = lists_not n.id m.id (ids_in ms) off in
    sym (cond-false (eqb m.id n.id) _ _ (ne_eqb m.id n.id (λ e. o.0 (sym e)))
    ∙ ap (λ l. n ∷ l) (cond-true (eqb m.id m.id) _ _ (eq-eqb m.id m.id refl)))

finish_cons : (o : Option ℕ) (c : ℕ) (gates : List Shape) (n : Node) (rest : List Node) → ((b : ℕ) → o ≡ Some b → b ≢ n.id)
    → n ∷ finish o c gates rest ≡ finish o c gates (n ∷ rest)
unfolding window_set
finish_cons None c gates n rest h = refl
finish_cons (Some b) c gates n rest h = sym (cond-false (eqb b n.id) _ _ (ne_eqb b n.id (h b refl)))

pub placed_gate : (a c : ℕ) (g : Shape) (gs : List Shape) (nodes : List Node) → NoTwice (ids_in nodes)
    → window_set a (suc c) (g ∷ gs) nodes ≡ finish (next_in a (ids_in nodes)) c gs (regated a g nodes)
unfolding window_set with_gates regated next_in
placed_gate a c g gs [] d = refl
placed_gate a c g gs (n ∷ rest) d =
    elim (cases_Bool (eqb a n.id)) [
      | inl t ↦ rw t (take_over c gs (let m : Node = record { id = n.id; gate = g } in m) rest d.0)
      | inr f ↦
          rw f
          (ap (λ l. n ∷ l) (placed_gate a c g gs rest d.1)
          ∙ finish_cons (next_in a (ids_in rest)) c gs n (regated a g rest) (λ b e q. differ_from n.id b (ids_in rest) d.0 (after_step a b (ids_in rest) d.1 e).1 (sym q)))
    ]

taken : (c : ℕ) (rest : List Node) → with_gates c [] rest ≡ finish (head (ids_in rest)) c [] rest
unfolding window_set
taken c [] = no_rest c []
taken c (m ∷ ms) = sym (cond-true (eqb m.id m.id) _ _ (eq-eqb m.id m.id refl))

set_none : (a : ℕ) (gates : List Shape) (nodes : List Node) → window_set a 0 gates nodes ≡ nodes
unfolding window_set with_gates
set_none a gates [] = refl
set_none a gates (n ∷ rest) =
    elim (cases_Bool (eqb a n.id)) [ inl t ↦ rw t refl | inr f ↦ rw f (ap (λ l. n ∷ l) (set_none a gates rest)) ]

pub placed_none : (a c : ℕ) (nodes : List Node) → NoTwice (ids_in nodes)
    → window_set a (suc c) [] nodes ≡ finish (next_in a (ids_in nodes)) c [] (erased a nodes)
unfolding window_set with_gates erased next_in
placed_none a c [] d = refl
placed_none a c (n ∷ rest) d =
    elim (cases_Bool (eqb a n.id)) [
      | inl t ↦ rw t (taken c rest)
      | inr f ↦
          rw f
          (ap (λ l. n ∷ l) (placed_none a c rest d.1)
          ∙ finish_cons (next_in a (ids_in rest)) c [] n (erased a rest) (λ b e q. differ_from n.id b (ids_in rest) d.0 (after_step a b (ids_in rest) d.1 e).1 (sym q)))
    ]

pub place_gate : (a c i : ℕ) (g : Shape) (gates : List Shape) (nodes new : List Node) (next : Option ℕ) → NoTwice (ids_in nodes) → i < length gates → g ≡ gate_at gates i
    → next ≡ next_in a (ids_in nodes) → new ≡ regated a g nodes
    → finish (Some a) (suc c) (drop i gates) nodes ≡ finish next c (drop (i + 1) gates) new
place_gate a c i g gates nodes new next d lt eg en e = grind (arith, window_set, drop_more, placed_gate)

pub place_none : (a c i : ℕ) (gates : List Shape) (nodes new : List Node) (next : Option ℕ) → NoTwice (ids_in nodes) → length gates ≤ i
    → next ≡ next_in a (ids_in nodes) → new ≡ erased a nodes
    → finish (Some a) (suc c) (drop i gates) nodes ≡ finish next c (drop (i + 1) gates) new
place_none a c i gates nodes new next d le en e = grind (arith, window_set, drop_all, placed_none)

live_next : (a : ℕ) (ids ids2 : List ℕ) (next : Option ℕ) → NoTwice ids → next ≡ next_in a ids → ((b : ℕ) → lists b ids ≡ true → b ≢ a → lists b ids2 ≡ true)
    → IfSome next (λ b. lists b ids2 ≡ true)
live_next a ids ids2 None d e h = tt
live_next a ids ids2 (Some b) d e h =
    let s = after_step a b ids d (sym e) in
    h b s.1 (after_differs a b ids d (ap (lists b) s.0 ∙ lists_here b (rest_after b ids)))

pub live_regated : (a : ℕ) (g : Shape) (nodes new : List Node) (next : Option ℕ) → NoTwice (ids_in nodes) → next ≡ next_in a (ids_in nodes) → new ≡ regated a g nodes
    → IfSome next (λ b. live b new ≡ true)
live_regated a g nodes new next d en e =
    live_next a (ids_in nodes) (ids_in new) next d en (λ b l _. ap (λ ns. lists b (ids_in ns)) e ∙ ap (lists b) (ids_regated a g nodes) ∙ l)

pub live_erased : (a : ℕ) (nodes new : List Node) (next : Option ℕ) → NoTwice (ids_in nodes) → next ≡ next_in a (ids_in nodes) → new ≡ erased a nodes
    → IfSome next (λ b. live b new ≡ true)
live_erased a nodes new next d en e =
    live_next a (ids_in nodes) (ids_in new) next d en
    (λ b l ne. ap (λ ns. lists b (ids_in ns)) e ∙ ap (lists b) (ids_erased a nodes) ∙ kept_without a b (ids_in nodes) ne l)

pub window_zero : (o : Option ℕ) (gates : List Shape) (nodes : List Node) → finish o 0 gates nodes ≡ nodes
window_zero None gates nodes = refl
window_zero (Some a) gates nodes = set_none a gates nodes

pub one_step : (at next : Option ℕ) (count i : ℕ) (gates : List Shape) (nodes new goal : List Node) → i < count
    → ((c : ℕ) → finish at (suc c) (drop i gates) nodes ≡ finish next c (drop (i + 1) gates) new)
    → finish at (count - i) (drop i gates) nodes ≡ goal → finish next (count - (i + 1)) (drop (i + 1) gates) new ≡ goal
one_step at next count i gates nodes new goal lt step inv = grind arith

pub all_steps : (at : Option ℕ) (count i : ℕ) (gates : List Shape) (nodes goal : List Node) → count ≤ i → finish at (count - i) (drop i gates) nodes ≡ goal → nodes ≡ goal
all_steps at count i gates nodes goal le inv = grind (arith, window_zero)

pub same_linkage : (v : Linkage) (frame : Cascade) (nodes : List Node) (notes : List ℕ) → v.frame ≡ frame → v.nodes ≡ nodes → v.notes ≡ notes → v ≡ (let w : Linkage = record { frame = frame; nodes = nodes; notes = notes } in w)
same_linkage v frame nodes notes e f k = grind arith

-- ---- the nodes in turn

pub start_from : (nodes : List Node) → nodes_from (head (ids_in nodes)) nodes ≡ nodes
unfolding from_node
start_from [] = refl
start_from (n ∷ rest) = cond-true (eqb n.id n.id) _ _ (eq-eqb n.id n.id refl)

from_cons : (o : Option ℕ) (n : Node) (rest : List Node) → ((b : ℕ) → o ≡ Some b → b ≢ n.id) → nodes_from o (n ∷ rest) ≡ nodes_from o rest
unfolding from_node
from_cons None n rest h = refl
from_cons (Some b) n rest h = cond-false (eqb b n.id) _ _ (ne_eqb b n.id (h b refl))

pub from_step : (a : ℕ) (nodes : List Node) → NoTwice (ids_in nodes) → live a nodes ≡ true
    → from_node a nodes ≡ (let n : Node = record { id = a; gate = node_gate a nodes } in n) ∷ nodes_from (next_in a (ids_in nodes)) nodes
unfolding from_node next_in node_gate
from_step a [] d on = absurd (false≢true on)
from_step a (n ∷ rest) d on =
    elim (cases_eq a n.id) [
      | inl e ↦
          rw (eq-eqb a n.id e)
          (ap (λ l. n ∷ l) (sym (from_cons (head (ids_in rest)) n rest (λ b h q. differ_from n.id b (ids_in rest) d.0 (head_listed (ids_in rest) b h) (sym q)) ∙ start_from rest))
          ∙ ap (λ i. (let m : Node = record { id = i; gate = n.gate } in m) ∷ nodes_from (head (ids_in rest)) (n ∷ rest)) (sym e))
      | inr ne ↦
          let l : live a rest ≡ true = elim (lists_cases a n.id (ids_in rest) on) [ inl e ↦ absurd (ne e) | inr l ↦ l ] in
          rw (ne_eqb a n.id ne)
          (from_step a rest d.1 l
          ∙ ap (λ t. (let m : Node = record { id = a; gate = node_gate a rest } in m) ∷ t)
          (sym (from_cons (next_in a (ids_in rest)) n rest (λ b h q. differ_from n.id b (ids_in rest) d.0 (after_step a b (ids_in rest) d.1 h).1 (sym q)))))
    ]

pub live_after : (a : ℕ) (nodes : List Node) (next : Option ℕ) → NoTwice (ids_in nodes) → next ≡ next_in a (ids_in nodes) → IfSome next (λ b. live b nodes ≡ true)
live_after a nodes None d e = tt
live_after a nodes (Some b) d e = (after_step a b (ids_in nodes) d (sym e)).1

pub live_first : (nodes : List Node) (o : Option ℕ) → o ≡ head (ids_in nodes) → IfSome o (λ b. live b nodes ≡ true)
live_first nodes None e = tt
live_first nodes (Some b) e = head_listed (ids_in nodes) b (sym e)

-- the gates that are still to come
pub to_come : Option ℕ → List Node → List Shape
to_come o nodes = gates_in (nodes_from o nodes)

pub come_first : (nodes : List Node) (o : Option ℕ) → o ≡ head (ids_in nodes) → to_come o nodes ≡ gates_in nodes
unfolding to_come
come_first nodes o e = ap (λ q. gates_in (nodes_from q nodes)) e ∙ ap (λ l. gates_in l) (start_from nodes)

pub come_next : (a : ℕ) (nodes : List Node) (next : Option ℕ) (g : Shape) (o : Option ℕ) → NoTwice (ids_in nodes) → live a nodes ≡ true → next ≡ next_in a (ids_in nodes) → g ≡ node_gate a nodes
    → o ≡ Some a → to_come o nodes ≡ g ∷ to_come next nodes
unfolding to_come
come_next a nodes next g o d on e eg eo = grind (arith, gates_in, nodes_from, from_step, next_in, ids_in)

pub come_none : (nodes : List Node) (o : Option ℕ) → o ≡ None → to_come o nodes ≡ []
unfolding to_come
come_none nodes o e = ap (λ q. gates_in (nodes_from q nodes)) e

-- each node's gate, by its number
all_nodes : (P : Shape → Type 0) (gates : List Shape) (ids : List ℕ) → ((id : ℕ) → lists id ids ≡ true → P (gate_at gates id)) → All P (gates_in (nodes_of gates ids))
all_nodes P gates ids h =
    All-map P (λ (n : Node). n.gate) (nodes_of gates ids)
    (All-map (λ (n : Node). P n.gate) (λ id. let n : Node = record { id = id; gate = gate_at gates id } in n) ids (λ j d lt. h (get_or ids j d) (get_lists ids j d lt)))

-- what the fields of a linked cascade keep, as contracts see it
pub linkage_is : {notes : List ℕ} → (frame : Cascade) (gates : List Shape) (order : Order) → IsLinked (length frame.names) gates order → Rising order.ids → IsCascade frame
    → IsLinkage (record { frame = frame; nodes = nodes_of gates order.ids; notes = notes })
linkage_is {notes = notes} frame gates order k r f =
    let a : length order.ids ≤ length gates = ids_few order.ids (length gates) k.once k.below in
    let b : length (gates_in (nodes_of gates order.ids)) ≡ length (nodes_of gates order.ids) = length-map (nodes_of gates order.ids) _ in
    let c : length (nodes_of gates order.ids) ≡ length order.ids = length-map order.ids _ in
    record {
      circuit = record {
        some = f.some;
        names = f.names;
        input_labels = f.input_labels;
        output_labels = f.output_labels;
        constants = f.constants;
        garbage = f.garbage;
        bounded = omega (arith, k.most);
        valid = all_nodes IsGate gates order.ids k.valid;
        fitting = all_nodes (λ g. FitsIn g (length frame.names)) gates order.ids k.fits;
      };
      once = rw (ids_of_nodes gates order.ids) k.once;
      rising = rw (ids_of_nodes gates order.ids) r;
    }

pub come_push : (done new goal : List Shape) (at next : Option ℕ) (nodes : List Node) (g : Shape) → new ≡ done ++ g ∷ [] → done ++ to_come at nodes ≡ goal
    → to_come at nodes ≡ g ∷ to_come next nodes → new ++ to_come next nodes ≡ goal
come_push done new goal at next nodes g e inv step =
    ap (λ (l : List Shape). l ++ to_come next nodes) e ∙ append_assoc done (g ∷ []) (to_come next nodes) ∙ ap (λ (l : List Shape). done ++ l) (sym step) ∙ inv

pub none_left : (o : Option ℕ) → ((x : ℕ) → o ≡ Some x → ⊥) → o ≡ None
none_left None h = refl
none_left (Some x) h = absurd (h x refl)

-- ---- how many lines gates touch

pub incidences_more : (gates : List Shape) (i : ℕ) (g : Shape) → i < length gates → g ≡ gate_at gates i → incidences (drop i gates) ≡ incidence g + incidences (drop (i + 1) gates)
unfolding incidences
incidences_more gates i g lt e =
    ap (incidences) (drop_more gates i blank lt) ∙ ap (λ h. incidence h + incidences (drop (i + 1) gates)) (sym e)

pub incidences_all : (gates : List Shape) (i : ℕ) → length gates ≤ i → incidences (drop i gates) ≡ 0
unfolding incidences
incidences_all gates i le = ap (incidences) (drop_all i gates le)

-- what is left of a window after so many gates, which touch so many lines
pub record Ahead (rest window : List Shape) (n sum : ℕ) : Type 0 where
  pub gates : n + length rest ≡ length window
  pub lines : sum + incidences rest ≡ incidences window

pub window_start : (first count : ℕ) (nodes : List Node) → Ahead (take (count - 0) (to_come (Some first) nodes)) (window_gates first count nodes) 0 0
unfolding to_come
window_start first count nodes =
    let z : count - 0 ≡ count = omega arith in
    rw z (record { gates = zero-add _; lines = zero-add _ })

pub window_step : (count i lines more : ℕ) (at next : Option ℕ) (nodes : List Node) (g : Shape) (window : List Shape) → i < count → to_come at nodes ≡ g ∷ to_come next nodes → more ≡ incidence g
    → Ahead (take (count - i) (to_come at nodes)) window i lines → Ahead (take (count - (i + 1)) (to_come next nodes)) window (i + 1) (lines + more)
unfolding incidences
window_step count i lines more at next nodes g window lt e m inv =
    let s : count - i ≡ suc (count - (i + 1)) = omega arith in
    let taken : take (count - i) (to_come at nodes) ≡ g ∷ take (count - (i + 1)) (to_come next nodes) = ap (λ k. take k (to_come at nodes)) s ∙ ap (take (suc (count - (i + 1)))) e in
    let l : length (take (count - i) (to_come at nodes)) ≡ suc (length (take (count - (i + 1)) (to_come next nodes))) = ap length taken in
    let t : incidences (take (count - i) (to_come at nodes)) ≡ incidence g + incidences (take (count - (i + 1)) (to_come next nodes)) = ap incidences taken in
    let a = inv.gates in
    let b = inv.lines in
    record { gates = omega arith; lines = omega arith }

take_none : (n : ℕ) → take n (let l : List Shape = [] in l) ≡ []
take_none zero = refl
take_none (suc n) = refl

window_done : (rest window : List Shape) (n sum : ℕ) → rest ≡ [] → Ahead rest window n sum → (n ≡ length window) × (sum ≡ incidences window)
unfolding incidences
window_done rest window n sum e inv = grind arith

pub window_end : (n : ℕ) (at : Option ℕ) (nodes : List Node) (window : List Shape) (gates lines : ℕ) → at ≡ None → Ahead (take n (to_come at nodes)) window gates lines
    → (gates ≡ length window) × (lines ≡ incidences window)
window_end n at nodes window gates lines e = window_done (take n (to_come at nodes)) window gates lines (ap (take n) (come_none nodes at e) ∙ take_none n)

pub window_full : (n : ℕ) (at : Option ℕ) (nodes : List Node) (window : List Shape) (gates lines : ℕ) → n ≡ 0 → Ahead (take n (to_come at nodes)) window gates lines
    → (gates ≡ length window) × (lines ≡ incidences window)
window_full n at nodes window gates lines e = window_done (take n (to_come at nodes)) window gates lines (ap (λ k. take k (to_come at nodes)) e)
