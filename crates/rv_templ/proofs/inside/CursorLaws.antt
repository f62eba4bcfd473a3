-- Places of linked nodes.
use Rattle.std.proofs.Common.{◌≡◌, ℕ, zero, suc, ◌+◌, ◌-◌, ◌<◌, ◌≤◌, true, false, eqb, List, [], ◌∷◌, ◌++◌, length, take, drop, refl, sym, ◌∙◌, ap, arith, subst, eq-eqb, ne_eqb, take-append-drop, length-drop}
use Rattle.std.specs.Prelude.{Option, Some, None, IfSome}
use Rattle.std.specs.List.{drop-map}
use Rattle.std.proofs.lemmas.Bool.{cond-true, cond-false, false≢true}
use Rattle.std.proofs.lemmas.Option.{none-some, same_Some}
use Rattle.std.proofs.lemmas.List.{length-take}
use Rattle.rv_links.specs.Order.{lists, head, next_in, prev_in, prev_from, NoTwice}
use Rattle.rv_links.specs.Nodes.{Node, ids_in, live, gates_in}
use Rattle.rv_templ.specs.inside.Linking.{coming, node_before, IsCursor}
use Rattle.rv_templ.proofs.NodeLists.{apart, from_at, live_head}
use Rattle.rv_templ.proofs.inside.LinkedWindows.{head_at, node_more}
use Rattle.rv_templ.proofs.inside.WindowSteps.{front_same}

-- ---- the node at a place

pub none_in : (nodes : List Node) → None ≡ head (ids_in nodes) → nodes ≡ []
none_in [] e = refl
none_in (n ∷ rest) e = absurd (none-some n.id e)

pub live_here : (nodes : List Node) (place a : ℕ) → Some a ≡ head (ids_in (drop place nodes)) → live a nodes ≡ true
live_here nodes place a e = ap (live a) (sym (take-append-drop place nodes)) ∙ live_head (take place nodes) (drop place nodes) a e

pub live_at : (nodes : List Node) (place : ℕ) (at : Option ℕ) → at ≡ head (ids_in (drop place nodes)) → IfSome at (λ a. live a nodes ≡ true)
live_at nodes place None e = tt
live_at nodes place (Some a) e = live_here nodes place a e

pub rest_at : (nodes : List Node) (place : ℕ) (at : Option ℕ) → NoTwice (ids_in nodes) → at ≡ head (ids_in (drop place nodes)) → coming at nodes ≡ drop place (gates_in nodes)
rest_at nodes place None d e = sym (ap gates_in (none_in (drop place nodes) e)) ∙ sym (drop-map (λ (n : Node). n.gate) place nodes)
rest_at nodes place (Some a) d e =
    let p = head_at nodes place a e in
    let whole : nodes ≡ take place nodes ++ (p.0 ∷ drop (place + 1) nodes) = sym (take-append-drop place nodes) ∙ ap (λ l. take place nodes ++ l) p.2 in
    let off = apart (take place nodes) p.0 (drop (place + 1) nodes) (subst (λ (l : List Node). NoTwice (ids_in l)) whole d) in
    ap (λ x. coming (Some x) nodes) (sym p.1) ∙ ap (coming (Some p.0.id)) whole
    ∙ ap gates_in (from_at (take place nodes) p.0 (drop (place + 1) nodes) off ∙ sym p.2)
    ∙ sym (drop-map (λ (n : Node). n.gate) place nodes)

pub within_here : (nodes : List Node) (place a : ℕ) → Some a ≡ head (ids_in (drop place nodes)) → place < length nodes
within_here nodes place a e = let k = head_at nodes place a e in omega (arith, ap length k.2, length-drop place nodes)

-- it is at no other place
pub place_once : (nodes : List Node) (i j a : ℕ) → NoTwice (ids_in nodes) → Some a ≡ head (ids_in (drop i nodes)) → Some a ≡ head (ids_in (drop j nodes)) → i ≡ j
place_once [] zero j a d e f = absurd (none-some a (sym e))
place_once [] (suc i) j a d e f = absurd (none-some a (sym e))
place_once (n ∷ rest) zero zero a d e f = refl
place_once (n ∷ rest) zero (suc j) a d e f = absurd (false≢true (sym d.0 ∙ ap (λ x. lists x (ids_in rest)) (sym (same_Some a n.id e)) ∙ live_here rest j a f))
place_once (n ∷ rest) (suc i) zero a d e f = absurd (false≢true (sym d.0 ∙ ap (λ x. lists x (ids_in rest)) (sym (same_Some a n.id f)) ∙ live_here rest i a e))
place_once (n ∷ rest) (suc i) (suc j) a d e f = ap suc (place_once rest i j a d.1 e f)

-- ---- the node before it

other_node : (m : Node) (rest : List Node) (k a : ℕ) → NoTwice (ids_in (m ∷ rest)) → Some a ≡ head (ids_in (drop k rest)) → eqb a m.id ≡ false
other_node m rest k a d e = ne_eqb a m.id (λ s. false≢true (sym d.0 ∙ ap (λ x. lists x (ids_in rest)) (sym s) ∙ live_here rest k a e))

before_node : (q : Option ℕ) (m : Node) (rest : List Node) (k a : ℕ) → NoTwice (ids_in (m ∷ rest)) → Some a ≡ head (ids_in (drop k rest)) → prev_from q a (ids_in (m ∷ rest)) ≡ head (ids_in (drop k (m ∷ rest)))
unfolding prev_from
before_node q m [] zero a d e = absurd (none-some a (sym e))
before_node q m [] (suc k) a d e = absurd (none-some a (sym e))
before_node q m (n ∷ more) zero a d e =
    cond-false (eqb a m.id) _ _ (other_node m (n ∷ more) 0 a d e) ∙ cond-true (eqb a n.id) _ _ (eq-eqb a n.id (same_Some a n.id e))
before_node q m (n ∷ more) (suc k) a d e =
    cond-false (eqb a m.id) _ _ (other_node m (n ∷ more) (suc k) a d e) ∙ before_node (Some m.id) n more k a d.1 e

prev_here : (nodes : List Node) (place a : ℕ) → NoTwice (ids_in nodes) → Some a ≡ head (ids_in (drop place nodes)) → prev_in a (ids_in nodes) ≡ node_before place nodes
unfolding prev_from
prev_here nodes place a h h1 = grind (arith, none-some, cond-true, eq-eqb, same_Some, before_node)

pub cursor_here : (nodes : List Node) (place a : ℕ) (before : Option ℕ) → NoTwice (ids_in nodes) → Some a ≡ head (ids_in (drop place nodes)) → before ≡ prev_in a (ids_in nodes) → IsCursor nodes place before
cursor_here nodes place a before d e p = record {
  within = let w = within_here nodes place a e in omega (arith, w);
  node = p ∙ prev_here nodes place a d e;
}

-- ---- from the node before a place

pub all_passed : (nodes : List Node) (place : ℕ) → None ≡ head (ids_in (drop place nodes)) → length nodes ≤ place
all_passed nodes place e = omega (arith, ap length (none_in (drop place nodes) e), length-drop place nodes)

pub no_end : (nodes : List Node) (place : ℕ) → place < length nodes → None ≡ head (ids_in (drop place nodes)) → ⊥
no_end nodes place lt e = omega (arith, lt, ap length (none_in (drop place nodes) e), length-drop place nodes)

-- before a place that is not the first one stands a node
pub has_before : (nodes : List Node) (place : ℕ) (before : Option ℕ) → IsCursor nodes place before → 0 < place → before ≡ None → ⊥
has_before nodes zero before c lt e = omega arith
has_before nodes (suc k) before c lt e = no_end nodes k (let w = c.within in omega arith) (sym e ∙ c.node)

pub before_at : (nodes : List Node) (place a : ℕ) (before : Option ℕ) → IsCursor nodes place before → before ≡ Some a → Some a ≡ head (ids_in (drop (place - 1) nodes))
before_at nodes zero a before c e = absurd (none-some a (sym c.node ∙ e))
before_at nodes (suc k) a before c e = let s : k ≡ suc k - 1 = omega arith in sym e ∙ c.node ∙ ap (λ n. head (ids_in (drop n nodes))) s

pub first_at : (nodes : List Node) (place : ℕ) (before at : Option ℕ) → IsCursor nodes place before → before ≡ None → at ≡ head (ids_in nodes) → at ≡ head (ids_in (drop place nodes))
first_at nodes zero before at c e a = a
first_at nodes (suc k) before at c e a = absurd (has_before nodes (suc k) before c (omega arith) e)

pub next_here : (nodes : List Node) (place a : ℕ) (before at : Option ℕ) → NoTwice (ids_in nodes) → IsCursor nodes place before → before ≡ Some a → at ≡ next_in a (ids_in nodes) → at ≡ head (ids_in (drop place nodes))
next_here nodes zero a before at d c e n = absurd (none-some a (sym c.node ∙ e))
next_here nodes (suc k) a before at d c e n = let s : k + 1 ≡ suc k = omega arith in node_more a nodes at before k d n e c.node ∙ ap (λ m. head (ids_in (drop m nodes))) s

-- ---- a change at a place or after it

first_same : (xs ys : List Node) → take 1 xs ≡ take 1 ys → head (ids_in xs) ≡ head (ids_in ys)
first_same xs ys h = grind arith

pub cursor_kept : (old new : List Node) (change place : ℕ) (before : Option ℕ) → take change new ≡ take change old → place ≤ change → IsCursor old place before → IsCursor new place before
cursor_kept old new change zero before e le c = record { within = omega arith; node = c.node }
cursor_kept old new change (suc k) before e le c =
    let w = c.within in
    record {
      within = omega (arith, w, le, ap length e, length-take change old, length-take change new);
      node = c.node ∙ first_same (drop k old) (drop k new) (front_same old new change k 1 (sym e) (omega arith));
    }
