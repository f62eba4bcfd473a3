-- Linked cascades through the numbers of their nodes: what is read, and how a node is erased.
use Rattle.std.proofs.Common.{◌≡◌, ◌≢◌, ℕ, ◌<◌, Bool, true, cond, eqb, List, [], ◌∷◌, length, get_or, refl, sym, ◌∙◌, ap, inl, inr, eq-eqb, ne_eqb}
use Rattle.std.specs.Prelude.{Option, Some}
use Rattle.std.proofs.lemmas.List.{get_or_read}
use Rattle.std.proofs.lemmas.Option.{none-some, same_Some}
use Rattle.std.proofs.lemmas.Bool.{cases_eq, cases_Bool, cond-true, cond-false, false≢true}
use Rattle.rv_gate.specs.declared.gate.Shape.{Shape}
use Rattle.rv_gate.specs.Circuit.{Cascade}
use Rattle.rv_links.specs.Order.{lists, head, next_in, prev_in, NoTwice}
use Rattle.rv_links.specs.inside.Ring.{Order, without, rest_after}
use Rattle.rv_links.specs.Nodes.{Node, Linkage, ids_in, live, node_gate, noted, erased}
use Rattle.rv_links.specs.inside.Chains.{blank, gate_at, nodes_of, IsLinked}
use Rattle.rv_links.proofs.inside.RingLemmas.{lists_here, lists_more, lists_cases, differ_from, lists_without, NoTwice-without}

pub ids_of_nodes : (gates : List Shape) (ids : List ℕ) → ids_in (nodes_of gates ids) ≡ ids
ids_of_nodes gates [] = refl
ids_of_nodes gates (x ∷ xs) = ap (λ l. x ∷ l) (ids_of_nodes gates xs)

pub gate_of_nodes : (gates : List Shape) (ids : List ℕ) (x : ℕ) → lists x ids ≡ true → node_gate x (nodes_of gates ids) ≡ gate_at gates x
unfolding node_gate
gate_of_nodes gates [] x h = absurd (false≢true h)
gate_of_nodes gates (y ∷ ys) x h =
    elim (cases_eq x y) [
      | inl e ↦ cond-true (eqb x y) _ _ (eq-eqb x y e) ∙ ap (gate_at gates) (sym e)
      | inr ne ↦
          cond-false (eqb x y) _ _ (ne_eqb x y ne)
          ∙ gate_of_nodes gates ys x (elim (lists_cases x y ys h) [ inl e ↦ absurd (ne e) | inr l ↦ l ])
    ]

pub erased_nodes : (gates : List Shape) (ids : List ℕ) (x : ℕ) → erased x (nodes_of gates ids) ≡ nodes_of gates (without x ids)
unfolding erased without
erased_nodes gates [] x = refl
erased_nodes gates (y ∷ ys) x =
    elim (cases_Bool (eqb x y)) [
      | inl t ↦ rw t refl
      | inr f ↦ rw f (ap (λ l. let n : Node = record { id = y; gate = gate_at gates y } in n ∷ l) (erased_nodes gates ys x))
    ]

-- ---- what the functions read

-- the view of linked fields
abbrev pub viewed : Cascade → List Shape → List ℕ → List ℕ → Linkage
viewed frame gates ids notes = record { frame = frame; nodes = nodes_of gates ids; notes = notes }

pub ids_viewed : {notes : List ℕ} → (frame : Cascade) (gates : List Shape) (ids : List ℕ) (l : Linkage) → viewed frame gates ids notes ≡ l → ids ≡ ids_in l.nodes
ids_viewed frame gates ids l e = sym (ids_of_nodes gates ids) ∙ ap (λ (v : Linkage). ids_in v.nodes) e

pub on_by : (gates : List Shape) (ids : List ℕ) → {frame : Cascade} {notes : List ℕ} {id node : ℕ} {l : Linkage} → viewed frame gates ids notes ≡ l → id ≡ node → live node l.nodes ≡ true → lists id ids ≡ true
on_by gates ids {frame = frame} {notes = notes} {id = id} {node = node} {l = l} e same h = ap (lists id) (ids_viewed frame gates ids l e) ∙ ap (λ x. live x l.nodes) same ∙ h

pub live_by : (gates : List Shape) (ids : List ℕ) → {frame : Cascade} {notes : List ℕ} {id node : ℕ} {l : Linkage} {b : Bool} → viewed frame gates ids notes ≡ l → id ≡ node → b ≡ lists id ids → b ≡ live node l.nodes
live_by gates ids {frame = frame} {notes = notes} {id = id} {node = node} {l = l} e same h = h ∙ ap (lists id) (ids_viewed frame gates ids l e) ∙ ap (λ x. live x l.nodes) same

pub next_by_nodes : (gates : List Shape) (ids : List ℕ) → {frame : Cascade} {notes : List ℕ} {id node : ℕ} {l : Linkage} {o : Option ℕ} → viewed frame gates ids notes ≡ l → id ≡ node
    → o ≡ next_in id ids → o ≡ next_in node (ids_in l.nodes)
next_by_nodes gates ids {frame = frame} {notes = notes} {id = id} {node = node} {l = l} e same h = h ∙ ap (λ x. next_in x ids) same ∙ ap (next_in node) (ids_viewed frame gates ids l e)

pub prev_by_nodes : (gates : List Shape) (ids : List ℕ) → {frame : Cascade} {notes : List ℕ} {id node : ℕ} {l : Linkage} {o : Option ℕ} → viewed frame gates ids notes ≡ l → id ≡ node
    → o ≡ prev_in id ids → o ≡ prev_in node (ids_in l.nodes)
prev_by_nodes gates ids {frame = frame} {notes = notes} {id = id} {node = node} {l = l} e same h = h ∙ ap (λ x. prev_in x ids) same ∙ ap (prev_in node) (ids_viewed frame gates ids l e)

pub gate_read : (gates : List Shape) (id : ℕ) (g : Shape) → id < length gates → g ≡ get_or gates id g → g ≡ gate_at gates id
gate_read gates id g lt e = get_or_read gates id g lt e blank

pub gate_by : (gates : List Shape) (ids : List ℕ) → {frame : Cascade} {notes : List ℕ} {id node : ℕ} {l : Linkage} {g : Shape} → viewed frame gates ids notes ≡ l → id ≡ node → lists id ids ≡ true
    → g ≡ gate_at gates id → g ≡ node_gate node l.nodes
gate_by gates ids {frame = frame} {notes = notes} {id = id} {node = node} {l = l} e same on read =
    read ∙ sym (gate_of_nodes gates ids id on) ∙ ap (λ (v : Linkage). node_gate id v.nodes) e ∙ ap (λ x. node_gate x l.nodes) same

pub note_by : (gates : List Shape) (ids : List ℕ) → {frame : Cascade} {notes : List ℕ} {id node note : ℕ} {l : Linkage} → viewed frame gates ids notes ≡ l → id ≡ node → id < length notes
    → note ≡ get_or notes id note → note ≡ noted node l.notes
note_by gates ids {frame = frame} {notes = notes} {id = id} {node = node} {note = note} {l = l} e same lt read =
    get_or_read notes id note lt read 0 ∙ ap (λ x. noted x notes) same ∙ ap (λ (v : Linkage). noted node v.notes) e

-- ---- a node is erased

pub erase_linked : (lines : ℕ) (gates : List Shape) (order : Order) (id : ℕ) (after : Order) → IsLinked lines gates order
    → after ≡ (let o : Order = record { room = order.room; ids = without id order.ids } in o) → IsLinked lines gates after
erase_linked lines gates order id after k e =
    rw e
    (record {
      few = k.few;
      most = k.most;
      room = k.room;
      once = NoTwice-without id order.ids k.once;
      below = λ x l. k.below x (lists_without id x order.ids l);
      fits = λ x l. k.fits x (lists_without id x order.ids l);
      valid = λ x l. k.valid x (lists_without id x order.ids l);
    })

-- the value of linked fields
pub linkage : {notes : List ℕ} → (frame : Cascade) (a b : List Node) → a ≡ b → (let v : Linkage = record { frame = frame; nodes = a; notes = notes } in v) ≡ (let v : Linkage = record { frame = frame; nodes = b; notes = notes } in v)
linkage {notes = notes} frame a b e = ap (λ ns. let v : Linkage = record { frame = frame; nodes = ns; notes = notes } in v) e

-- ---- the next node

head_is : (zs : List ℕ) (q : ℕ) → head zs ≡ Some q → (rest : List ℕ) × (zs ≡ q ∷ rest)
head_is [] q e = absurd (none-some q e)
head_is (z ∷ zs) q e = (zs, ap (λ n. n ∷ zs) (same_Some z q e))

-- the numbers after x, one step on
pub after_step : (x q : ℕ) (ids : List ℕ) → NoTwice ids → next_in x ids ≡ Some q → (rest_after x ids ≡ q ∷ rest_after q ids) × (lists q ids ≡ true)
unfolding rest_after next_in
after_step x q [] d e = absurd (none-some q e)
after_step x q (y ∷ ys) d e =
    elim (cases_Bool (eqb x y)) [
      | inl t ↦
          let h = head_is ys q (ap (λ b. cond b (head ys) (next_in x ys)) (sym t) ∙ e) in
          let on : lists q ys ≡ true = ap (lists q) h.1 ∙ lists_here q h.0 in
          let ne : q ≢ y = λ i. differ_from y q ys d.0 on (sym i) in
          let tail : rest_after q ys ≡ h.0 = ap (rest_after q) h.1 ∙ cond-true (eqb q q) _ _ (eq-eqb q q refl) in
          (cond-true (eqb x y) _ _ t ∙ h.1 ∙ ap (λ l. q ∷ l) (sym (cond-false (eqb q y) _ _ (ne_eqb q y ne) ∙ tail)), lists_more q y ys on)
      | inr f ↦
          let r = after_step x q ys d.1 (ap (λ b. cond b (head ys) (next_in x ys)) (sym f) ∙ e) in
          let ne : q ≢ y = λ i. differ_from y q ys d.0 r.1 (sym i) in
          (cond-false (eqb x y) _ _ f ∙ r.0 ∙ ap (λ l. q ∷ l) (sym (cond-false (eqb q y) _ _ (ne_eqb q y ne))), lists_more q y ys r.1)
    ]

pub head_listed : (zs : List ℕ) (r : ℕ) → head zs ≡ Some r → lists r zs ≡ true
head_listed zs r e = let h = head_is zs r e in ap (lists r) h.1 ∙ lists_here r h.0

pub after_differs : (x r : ℕ) (ids : List ℕ) → NoTwice ids → lists r (rest_after x ids) ≡ true → r ≢ x
unfolding rest_after
after_differs x r [] d h = absurd (false≢true h)
after_differs x r (y ∷ ys) d h =
    elim (cases_eq x y) [
      | inl e ↦ (λ q. differ_from y r ys d.0 (ap (λ b. lists r (cond b ys (rest_after x ys))) (sym (eq-eqb x y e)) ∙ h) (sym (q ∙ e)))
      | inr ne ↦ after_differs x r ys d.1 (ap (λ b. lists r (cond b ys (rest_after x ys))) (sym (ne_eqb x y ne)) ∙ h)
    ]
