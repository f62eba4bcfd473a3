-- Linked cascades through the numbers of their nodes: a node gets another gate, and a whole cascade is made.
use Rattle.std.proofs.Common.{◌≡◌, ℕ, zero, suc, ◌+◌, ◌<◌, true, false, eqb, List, [], ◌∷◌, ◌++◌, length, get_or, set, drop, refl, subst, sym, ◌∙◌, ap, inl, inr, arith, length-set, get_or-set_same, get_or-set_other, eq-eqb, ne_eqb}
use Rattle.std.specs.List.{range_with_len}
use Rattle.std.specs.Prelude.{All}
use Rattle.std.proofs.lemmas.List.{get_or-drop, drop-drop}
use Rattle.std.proofs.lemmas.Bool.{cases_eq, cond-true, cond-false, false_from_ne_true}
use Rattle.rv_gate.specs.declared.gate.Shape.{Shape}
use Rattle.rv_gate.specs.Gate.{FitsIn, IsGate}
use Rattle.rv_gate.specs.Circuit.{Cascade, IsCascade}
use Rattle.rv_links.specs.Order.{lists, NoTwice, Rising}
use Rattle.rv_links.specs.inside.Ring.{Order}
use Rattle.rv_links.specs.Nodes.{Node, ids_in, gates_in, regated}
use Rattle.rv_links.specs.inside.Chains.{blank, gate_at, nodes_of, IsLinked}
use Rattle.rv_links.proofs.inside.RingLemmas.{lists_not}
use Rattle.rv_links.proofs.inside.LinkedLemmas.{ids_of_nodes}
use Rattle.rv_links.proofs.inside.IndexLemmas.{in_range, rising_range}

-- ---- a node gets another gate

cons_node : (y : ℕ) (a b : Shape) (l m : List Node) → a ≡ b → l ≡ m → (let n : Node = record { id = y; gate = a } in n ∷ l) ≡ (let n : Node = record { id = y; gate = b } in n ∷ m)
cons_node y a b l m e f = ap (λ h. let n : Node = record { id = y; gate = h } in n ∷ l) e ∙ ap (λ t. let n : Node = record { id = y; gate = b } in n ∷ t) f

map_same : (gates : List Shape) (ids : List ℕ) (x : ℕ) (g : Shape) → lists x ids ≡ false → nodes_of (set gates x g) ids ≡ nodes_of gates ids
map_same gates [] x g off = refl
map_same gates (y ∷ ys) x g off =
    let o = lists_not x y ys off in
    cons_node y _ _ _ _ (get_or-set_other gates x y g blank (λ e. o.0 (sym e))) (map_same gates ys x g o.1)

pub regated_nodes : (gates : List Shape) (ids : List ℕ) (x : ℕ) (g : Shape) → x < length gates → NoTwice ids → nodes_of (set gates x g) ids ≡ regated x g (nodes_of gates ids)
unfolding regated
regated_nodes gates [] x g lt d = refl
regated_nodes gates (y ∷ ys) x g lt d =
    elim (cases_eq x y) [
      | inl e ↦
          cons_node y _ g _ _ (ap (gate_at (set gates x g)) (sym e) ∙ get_or-set_same gates x g blank lt)
          (map_same gates ys x g (ap (λ n. lists n ys) e ∙ d.0))
          ∙ sym (cond-true (eqb x y) _ _ (eq-eqb x y e))
      | inr ne ↦
          cons_node y _ (gate_at gates y) _ _ (get_or-set_other gates x y g blank (λ e. ne (sym e))) (regated_nodes gates ys x g lt d.1)
          ∙ sym (cond-false (eqb x y) _ _ (ne_eqb x y ne))
    ]

pub regate_linked : (lines : ℕ) (gates : List Shape) (order : Order) (id : ℕ) (g : Shape) → IsLinked lines gates order → lists id order.ids ≡ true → FitsIn g lines → IsGate g
    → IsLinked lines (set gates id g) order
regate_linked lines gates order id g k on fit ok =
    record {
      few = k.few;
      most = rw (length-set gates id g) k.most;
      room = k.room ∙ sym (length-set gates id g);
      once = k.once;
      below = λ x l. let b = k.below x l in omega (arith, length-set gates id g);
      fits = λ x l.
          elim (cases_eq x id) [
            | inl e ↦ rw (e, get_or-set_same gates id g blank (k.below id on)) fit
            | inr ne ↦ rw (get_or-set_other gates id x g blank ne) (k.fits x l)
          ];
      valid = λ x l.
          elim (cases_eq x id) [
            | inl e ↦ rw (e, get_or-set_same gates id g blank (k.below id on)) ok
            | inr ne ↦ rw (get_or-set_other gates id x g blank ne) (k.valid x l)
          ];
    }

-- ---- a linked cascade is made

pub fresh_in_range : (n : ℕ) → lists n (range_with_len 0 n) ≡ false
fresh_in_range n = false_from_ne_true _ (λ l. let r = in_range 0 n n l in absurd (omega (arith, r.1)))

pub range_more : (a n : ℕ) → range_with_len a (n + 1) ≡ range_with_len a n ++ (a + n) ∷ []
range_more a zero = ap (λ (k : ℕ). k ∷ []) (omega arith)
range_more a (suc n) =
    let e : suc n + 1 ≡ suc (n + 1) = omega arith in
    let f : a + 1 + n ≡ a + suc n = omega arith in
    ap (range_with_len a) e ∙ ap (λ l. a ∷ l) (range_more (a + 1) n ∙ ap (λ k. range_with_len (a + 1) n ++ k ∷ []) f)

once_rising : (ids : List ℕ) → Rising ids → NoTwice ids
once_rising [] r = tt
once_rising (x ∷ xs) r = (false_from_ne_true _ (λ l. let lt = r.0 x l in absurd (omega arith)), once_rising xs r.1)

-- all numbers are in order
pub linked_range : (c : Cascade) (lines : ℕ) (gates : List Shape) (order : Order) → IsCascade c → lines ≡ length c.names → gates ≡ c.gates → order.room ≡ length gates → order.ids ≡ range_with_len 0 (length gates)
    → IsLinked lines gates order
linked_range c lines gates order k el eg room ids =
    let below : (x : ℕ) → lists x order.ids ≡ true → x < length gates = λ x l. let r = in_range 0 (length gates) x (sym (ap (lists x) ids) ∙ l) in omega (arith, r.1) in
    let fits : All (λ g. FitsIn g lines) gates = rw (el, eg) k.fitting in
    let valid : All IsGate gates = rw eg k.valid in
    record {
      few = rw el k.names.few;
      most = rw eg k.bounded;
      room = room;
      once = subst (λ (l : List ℕ). NoTwice l) (sym ids) (once_rising _ (rising_range 0 (length gates)));
      below = below;
      fits = λ x l. fits x blank (below x l);
      valid = λ x l. valid x blank (below x l);
    }

gates_from : (gates : List Shape) (a : ℕ) (rest : List Shape) → rest ≡ drop a gates → gates_in (nodes_of gates (range_with_len a (length rest))) ≡ rest
gates_from gates a [] e = refl
gates_from gates a (g ∷ rest) e =
    let h : drop a gates ≡ g ∷ rest = sym e in
    let g0 : gate_at gates a ≡ g = ap (gate_at gates) (omega arith) ∙ sym (get_or-drop a gates 0 blank) ∙ ap (λ l. get_or l 0 blank) h in
    let next : rest ≡ drop (a + 1) gates = sym (sym (drop-drop 1 a gates) ∙ ap (drop 1) h) in
    ap (λ x. x ∷ gates_in (nodes_of gates (range_with_len (a + 1) (length rest)))) g0 ∙ ap (λ l. g ∷ l) (gates_from gates (a + 1) rest next)

pub all_gates : (gates : List Shape) (ids : List ℕ) → ids ≡ range_with_len 0 (length gates) → gates_in (nodes_of gates ids) ≡ gates
all_gates gates ids e = ap (λ l. gates_in (nodes_of gates l)) e ∙ gates_from gates 0 gates refl

pub made_ids : (gates given seen : List Shape) (ids : List ℕ) → gates ≡ given → seen ≡ gates → ids ≡ range_with_len 0 (length seen) → ids_in (nodes_of gates ids) ≡ range_with_len 0 (length given)
made_ids gates given seen ids e f g = ids_of_nodes gates ids ∙ g ∙ ap (λ l. range_with_len 0 (length l)) (f ∙ e)

pub made_gates : (gates given seen : List Shape) (ids : List ℕ) → gates ≡ given → seen ≡ gates → ids ≡ range_with_len 0 (length seen) → gates_in (nodes_of gates ids) ≡ given
made_gates gates given seen ids e f g = all_gates gates ids (g ∙ ap (λ l. range_with_len 0 (length l)) f) ∙ e
