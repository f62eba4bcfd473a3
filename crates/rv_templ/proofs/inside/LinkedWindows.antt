-- Windows of linked gates.
use Rattle.std.proofs.lemmas.Grind.{common_steps}
use Rattle.std.proofs.Common.{◌≡◌, ℕ, zero, suc, ◌+◌, ◌-◌, ◌<◌, ◌≤◌, true, eqb, List, [], ◌∷◌, ◌++◌, length, take, drop, set, refl, sym, ◌∙◌, ap, inl, inr, arith, subst, eq-eqb, ne_eqb, append_assoc, take-append-drop, length-drop}
use Rattle.std.specs.Prelude.{Option, Some, None}
use Rattle.std.proofs.lemmas.Bool.{cases_eq, cond-true, cond-false, false≢true, or_cases, eqb-true}
use Rattle.std.proofs.lemmas.Option.{none-some, same_Some}
use Rattle.std.proofs.lemmas.List.{take_more_set, length-take-le, drop-drop, length-map, append_cancel_right}
use Rattle.rv_templ.specs.Gates.{AreGates}
use Rattle.rv_gate.specs.declared.gate.Shape.{Shape}
use Rattle.rv_links.specs.Order.{lists, head, next_in, NoTwice}
use Rattle.rv_links.specs.Nodes.{Node, Linkage, IsLinkage, ids_in, live, node_gate, from_node, with_gates, window_set, incidences, gates_in}
use Rattle.rv_links.proofs.inside.WindowLemmas.{from_step}
use Rattle.rv_templ.specs.Templates.{AreTemplates}
use Rattle.rv_templ.specs.Choices.{window_at, after, Found}
use Rattle.rv_templ.specs.inside.Replaced.{Here, gates_for}
use Rattle.rv_templ.specs.inside.Clean.{Clean, IsSpot}
use Rattle.rv_templ.specs.inside.Linking.{coming}
use Rattle.rv_templ.proofs.GateLists.{AreGates-last}
use Rattle.std.proofs.Math.Seq.{drop-append_seam}
use Rattle.rv_templ.proofs.NodeLists.{apart, next_at, window_at_node}
use Rattle.rv_templ.proofs.LinkedGates.{linked_gates}
use Rattle.rv_templ.proofs.inside.KeepingLaws.{here}

-- ---- the gates to come

pub coming_next : (a : ℕ) (nodes : List Node) (next : Option ℕ) (g : Shape) → NoTwice (ids_in nodes) → live a nodes ≡ true → next ≡ next_in a (ids_in nodes) → g ≡ node_gate a nodes
    → coming (Some a) nodes ≡ g ∷ coming next nodes
coming_next a nodes next g d on e eg = grind (arith, gates_in, from_step, next_in, ids_in)

pub copy_more : (most i : ℕ) (room here later goal : List Shape) (g : Shape) → i < most → most ≤ length room → here ≡ g ∷ later
    → take i room ++ take (most - i) here ≡ goal → take (i + 1) (set room i g) ++ take (most - (i + 1)) later ≡ goal
copy_more most i room here later goal g h len e inv =
    let s : suc (most - (i + 1)) ≡ most - i = omega arith in
    ap (λ l. l ++ take (most - (i + 1)) later) (take_more_set room i g (omega arith))
    ∙ append_assoc (take i room) (g ∷ []) (take (most - (i + 1)) later)
    ∙ ap (λ n. take i room ++ take n (g ∷ later)) s
    ∙ ap (λ l. take i room ++ take (most - i) l) (sym e)
    ∙ inv

-- ---- a window of nodes

set_gates : (c : ℕ) (gs : List Shape) (nodes : List Node) → length gs ≤ c → c ≤ length nodes → gates_in (with_gates c gs nodes) ≡ gs ++ drop c (gates_in nodes)
unfolding with_gates
set_gates zero [] nodes a b = refl
set_gates zero (g ∷ gs) nodes a b = absurd (omega arith)
set_gates (suc c) gs [] a b = absurd (omega arith)
set_gates (suc c) [] (n ∷ rest) a b = set_gates c [] rest (omega arith) (omega arith)
set_gates (suc c) (g ∷ gs) (n ∷ rest) a b = ap (λ l. g ∷ l) (set_gates c gs rest (omega arith) (omega arith))

-- a list of nodes is cut before a node
pub record Cut (a c : ℕ) (gs : List Shape) (nodes : List Node) : Type 0 where
  pub before : List Shape
  pub whole : gates_in nodes ≡ before ++ coming (Some a) nodes
  pub new : gates_in (window_set a c gs nodes) ≡ before ++ (gs ++ drop c (coming (Some a) nodes))

pub cut : (a c : ℕ) (gs : List Shape) (nodes : List Node) → live a nodes ≡ true → length gs ≤ c → c ≤ length (coming (Some a) nodes) → Cut a c gs nodes
unfolding from_node window_set
cut a c gs [] on x y = absurd (false≢true on)
cut a c gs (n ∷ rest) on x y =
    elim (cases_eq a n.id) [
      | inl e ↦
          let t = eq-eqb a n.id e in
          let f : coming (Some a) (n ∷ rest) ≡ gates_in (n ∷ rest) = ap gates_in (cond-true (eqb a n.id) (n ∷ rest) (from_node a rest) t) in
          record {
            before = [];
            whole = sym f;
            new = ap gates_in (cond-true (eqb a n.id) (with_gates c gs (n ∷ rest)) (n ∷ window_set a c gs rest) t)
                ∙ set_gates c gs (n ∷ rest) x (omega (arith, y, ap length f, length-map (n ∷ rest) (λ (n : Node). n.gate)))
                ∙ ap (λ l. gs ++ drop c l) (sym f);
          }
      | inr ne ↦
          let t = ne_eqb a n.id ne in
          let f : coming (Some a) (n ∷ rest) ≡ coming (Some a) rest = ap gates_in (cond-false (eqb a n.id) (n ∷ rest) (from_node a rest) t) in
          let on2 : live a rest ≡ true = elim (or_cases (eqb a n.id) (lists a (ids_in rest)) on) [ inl e ↦ absurd (ne (eqb-true a n.id e)) | inr l ↦ l ] in
          let k = cut a c gs rest on2 x (omega (arith, y, ap length f)) in
          record {
            before = n.gate ∷ k.before;
            whole = ap (λ l. n.gate ∷ l) (k.whole ∙ ap (λ l. k.before ++ l) (sym f));
            new = ap gates_in (cond-false (eqb a n.id) (with_gates c gs (n ∷ rest)) (n ∷ window_set a c gs rest) t)
                ∙ ap (λ l. n.gate ∷ l) (k.new ∙ ap (λ l. k.before ++ (gs ++ drop c l)) (sym f));
          }
    ]

-- ---- what was found

-- they are no more, and touch no more lines
pub takes_it : (n : ℕ) (library : List (List Shape)) (gates : List Shape) (found : Found) → Here n library gates found
    → (length (gates_for gates library found) ≤ length (take found.count gates)) × (incidences (gates_for gates library found) ≤ incidences (take found.count gates))
takes_it n library gates found h = (omega (arith, h.fewer, length-take-le found.count gates h.here), h.no_more)

pub spot_here : (l : Linkage) (library : List (List Shape)) (place a : ℕ) (found : Found) → IsLinkage l → AreTemplates library → IsSpot library l.nodes place a found
    → Here (length l.frame.names) library (coming (Some a) l.nodes) found
spot_here l library place a found valid are spot =
    let gates : List Shape = gates_in l.nodes in
    let good : AreGates (length l.frame.names) (drop place gates) =
    AreGates-last (length l.frame.names) (take place gates) (drop place gates) (subst (λ (g : List Shape). AreGates (length l.frame.names) g) (sym (take-append-drop place gates)) (linked_gates l valid)) in
    here (length l.frame.names) library (coming (Some a) l.nodes) found are valid.circuit.names.few (subst (λ (g : List Shape). AreGates (length l.frame.names) g) (sym spot.here) good)
    (ap (λ g. window_at g library) spot.here ∙ spot.exact)

pub replaced_spot : (n : ℕ) (library : List (List Shape)) (nodes : List Node) (place a : ℕ) (found : Found) → IsSpot library nodes place a found → Here n library (coming (Some a) nodes) found
    → gates_in (window_set a found.count (gates_for (coming (Some a) nodes) library found) nodes) ≡ take place (gates_in nodes) ++ after (drop place (gates_in nodes)) library found
replaced_spot n library nodes place a found spot h =
    let gates : List Shape = gates_in nodes in
    let k = cut a found.count (gates_for (coming (Some a) nodes) library found) nodes spot.live (let lt = h.fewer in omega arith) h.here in
    let front : k.before ≡ take place gates =
    append_cancel_right k.before (take place gates) (coming (Some a) nodes) (sym k.whole ∙ sym (take-append-drop place gates) ∙ ap (λ l. take place gates ++ l) (sym spot.here)) in
    k.new ∙ ap (λ l. l ++ after (coming (Some a) nodes) library found) front ∙ ap (λ l. take place gates ++ after l library found) spot.here

-- the nodes before a window stay
window_front : (a c : ℕ) (gs : List Shape) (nodes : List Node) (place : ℕ) → place + length (coming (Some a) nodes) ≤ length nodes → take place (window_set a c gs nodes) ≡ take place nodes
unfolding from_node window_set
window_front a c gs nodes zero le = refl
window_front a c gs [] (suc place) le = refl
window_front a c gs (n ∷ rest) (suc place) le = let i0 = window_front a c gs rest place in grind (arith, i0, cond-true, eq-eqb, length-map, ne_eqb, cond-false)

pub spot_front : (library : List (List Shape)) (nodes : List Node) (place a : ℕ) (found : Found) (gs : List Shape) → IsSpot library nodes place a found → take place (window_set a found.count gs nodes) ≡ take place nodes
spot_front library nodes place a found gs spot = grind (arith, window_front, here, length-drop, length-map)

-- ---- the walk along all nodes

pub rest_more : (a : ℕ) (nodes : List Node) (next at : Option ℕ) (place : ℕ) → NoTwice (ids_in nodes) → live a nodes ≡ true → next ≡ next_in a (ids_in nodes) → at ≡ Some a → coming at nodes ≡ drop place (gates_in nodes)
    → coming next nodes ≡ drop (place + 1) (gates_in nodes)
rest_more a nodes next at place d on e ea rest =
    let c = coming_next a nodes next (node_gate a nodes) d on e refl in
    sym (ap (drop 1) (sym rest ∙ ap (λ q. coming q nodes) ea ∙ c)) ∙ drop-drop 1 place (gates_in nodes)

-- the place of a node is within the list
pub rest_within : (a : ℕ) (nodes : List Node) (at : Option ℕ) (place : ℕ) → NoTwice (ids_in nodes) → live a nodes ≡ true → at ≡ Some a → coming at nodes ≡ drop place (gates_in nodes) → place < length (gates_in nodes)
rest_within a nodes at place d on ea rest =
    grind (arith, common_steps, coming_next, next_in, ids_in, node_gate, length-drop, gates_in)

-- nothing is left: the list is not longer
pub rest_end : (nodes : List Node) (at : Option ℕ) (place : ℕ) → at ≡ None → coming at nodes ≡ drop place (gates_in nodes) → length (gates_in nodes) ≤ place
rest_end nodes at place e rest =
    let l = ap length (sym rest ∙ ap (λ q. coming q nodes) e) in
    omega (arith, l, length-drop place (gates_in nodes))

pub shorter_next : (a : ℕ) (nodes : List Node) (next at : Option ℕ) → NoTwice (ids_in nodes) → live a nodes ≡ true → next ≡ next_in a (ids_in nodes) → at ≡ Some a → length (coming next nodes) < length (coming at nodes)
shorter_next a nodes next at d on e ea = grind (arith, coming_next, node_gate)

pub clean_more : (library : List (List Shape)) (gates here : List Shape) (place : ℕ) → Clean library gates place → here ≡ drop place gates → window_at here library ≡ None → Clean library gates (place + 1)
clean_more library gates here place clean e none i lt = grind (arith)

-- the node at a place, and at the next one
pub head_at : (nodes : List Node) (place a : ℕ) → Some a ≡ head (ids_in (drop place nodes)) → (n : Node) × (n.id ≡ a) × (drop place nodes ≡ n ∷ drop (place + 1) nodes)
head_at nodes place a e = split_at (drop place nodes) (drop (place + 1) nodes) a e (drop-drop 1 place nodes)
  where
    split_at : (here next : List Node) (a : ℕ) → Some a ≡ head (ids_in here) → drop 1 here ≡ next → (n : Node) × (n.id ≡ a) × (here ≡ n ∷ next)
    split_at [] next a e s = absurd (none-some a (sym e))
    split_at (n ∷ rest) next a e s = (n, sym (same_Some a n.id e), ap (λ l. n ∷ l) s)

pub node_more : (a : ℕ) (nodes : List Node) (next at : Option ℕ) (place : ℕ) → NoTwice (ids_in nodes) → next ≡ next_in a (ids_in nodes) → at ≡ Some a → at ≡ head (ids_in (drop place nodes))
    → next ≡ head (ids_in (drop (place + 1) nodes))
node_more a nodes next at place d e ea h =
    let p = head_at nodes place a (sym ea ∙ h) in
    let whole : nodes ≡ take place nodes ++ (p.0 ∷ drop (place + 1) nodes) = sym (take-append-drop place nodes) ∙ ap (λ l. take place nodes ++ l) p.2 in
    let off = apart (take place nodes) p.0 (drop (place + 1) nodes) (subst (λ (l : List Node). NoTwice (ids_in l)) whole d) in
    e ∙ ap (λ x. next_in x (ids_in nodes)) (sym p.1) ∙ ap (λ l. next_in p.0.id (ids_in l)) whole ∙ next_at (take place nodes) p.0 (drop (place + 1) nodes) off

-- the nodes from the window on
pub spot_set : (library : List (List Shape)) (nodes : List Node) (place a : ℕ) (found : Found) (gs : List Shape) → NoTwice (ids_in nodes) → IsSpot library nodes place a found
    → drop place (window_set a found.count gs nodes) ≡ with_gates found.count gs (drop place nodes)
spot_set library nodes place a found gs d spot =
    let p = head_at nodes place a spot.first in
    let tail : List Node = drop (place + 1) nodes in
    let front : List Node = take place nodes in
    let whole : nodes ≡ front ++ (p.0 ∷ tail) = sym (take-append-drop place nodes) ∙ ap (λ l. front ++ l) p.2 in
    let off = apart front p.0 tail (subst (λ (l : List Node). NoTwice (ids_in l)) whole d) in
    let set : List Node = with_gates found.count gs (p.0 ∷ tail) in
    let is : window_set a found.count gs nodes ≡ front ++ set = ap (λ x. window_set x found.count gs nodes) (sym p.1) ∙ ap (window_set p.0.id found.count gs) whole ∙ window_at_node front p.0 tail found.count gs off in
    let len : length front ≡ place = let within = spot.within in length-take-le place nodes (omega (arith, within, length-map nodes (λ (n : Node). n.gate))) in
    ap (drop place) is ∙ ap (λ k. drop k (front ++ set)) (sym len) ∙ drop-append_seam front set ∙ ap (with_gates found.count gs) (sym p.2)
