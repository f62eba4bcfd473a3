-- Nodes that stand after others.
use Rattle.std.proofs.Common.{◌≡◌, ℕ, ◌<◌, true, false, eqb, List, [], ◌∷◌, ◌++◌, refl, sym, subst, ◌∙◌, ap, inl, inr, arith, eq-eqb, ne_eqb, append_assoc}
use Rattle.std.proofs.lemmas.Bool.{cond-true, cond-false, false≢true, or_cases, or_parts, or_left, or_right, eqb-true}
use Rattle.std.specs.Prelude.{Option, Some, IfSome}
use Rattle.rv_links.specs.Doubt.{IsBefore}
use Rattle.std.proofs.lemmas.List.{append-nil}
use Rattle.std.proofs.lemmas.Option.{none-some, same_Some}
use Rattle.rv_gate.specs.declared.gate.Shape.{Shape}
use Rattle.rv_links.specs.Order.{lists, head, next_in, NoTwice, Rising}
use Rattle.rv_links.specs.Nodes.{Node, ids_in, live, node_gate, from_node, erased, regated, with_gates, window_set}

pub listed_at : (before : List Node) (n : Node) (after : List Node) → lists n.id (ids_in (before ++ (n ∷ after))) ≡ true
listed_at [] n after = or_left (eqb n.id n.id) _ (eq-eqb n.id n.id refl)
listed_at (m ∷ before) n after = or_right (eqb n.id m.id) _ (listed_at before n after)

pub apart : (before : List Node) (n : Node) (after : List Node) → NoTwice (ids_in (before ++ (n ∷ after))) → lists n.id (ids_in before) ≡ false
apart [] n after d = refl
apart (m ∷ before) n after d = let i0 = apart before n after d.1 in grind (arith, i0, listed_at, ne_eqb)

pub next_at : (before : List Node) (n : Node) (after : List Node) → lists n.id (ids_in before) ≡ false → next_in n.id (ids_in (before ++ (n ∷ after))) ≡ head (ids_in after)
unfolding next_in
next_at [] n after off = cond-true (eqb n.id n.id) _ _ (eq-eqb n.id n.id refl)
next_at (m ∷ before) n after off = let i0 = next_at before n after in grind (arith, i0, or_parts, cond-false)

pub gate_at_node : (before : List Node) (n : Node) (after : List Node) → lists n.id (ids_in before) ≡ false → node_gate n.id (before ++ (n ∷ after)) ≡ n.gate
unfolding node_gate
gate_at_node [] n after off = cond-true (eqb n.id n.id) _ _ (eq-eqb n.id n.id refl)
gate_at_node (m ∷ before) n after off = let i0 = gate_at_node before n after in grind (arith, i0, or_parts, cond-false)

pub gone_at : (before : List Node) (n : Node) (after : List Node) → lists n.id (ids_in before) ≡ false → erased n.id (before ++ (n ∷ after)) ≡ before ++ after
unfolding erased
gone_at [] n after off = cond-true (eqb n.id n.id) _ _ (eq-eqb n.id n.id refl)
gone_at (m ∷ before) n after off = let i0 = gone_at before n after in grind (arith, i0, or_parts, cond-false)

pub regated_at : (before : List Node) (n : Node) (after : List Node) (g : Shape) → lists n.id (ids_in before) ≡ false → regated n.id g (before ++ (n ∷ after)) ≡ before ++ ((record { id = n.id; gate = g }) ∷ after)
unfolding regated
regated_at [] n after g off = cond-true (eqb n.id n.id) _ _ (eq-eqb n.id n.id refl)
regated_at (m ∷ before) n after g off = let i0 = regated_at before n after g in grind (arith, i0, or_parts, cond-false)

pub window_at_node : (before : List Node) (n : Node) (after : List Node) (c : ℕ) (gs : List Shape) → lists n.id (ids_in before) ≡ false → window_set n.id c gs (before ++ (n ∷ after)) ≡ before ++ with_gates c gs (n ∷ after)
unfolding window_set
window_at_node [] n after c gs off = cond-true (eqb n.id n.id) _ _ (eq-eqb n.id n.id refl)
window_at_node (m ∷ before) n after c gs off = let i0 = window_at_node before n after c gs in grind (arith, i0, or_parts, cond-false)

pub from_at : (before : List Node) (n : Node) (after : List Node) → lists n.id (ids_in before) ≡ false → from_node n.id (before ++ (n ∷ after)) ≡ n ∷ after
unfolding from_node
from_at [] n after off = cond-true (eqb n.id n.id) _ _ (eq-eqb n.id n.id refl)
from_at (m ∷ before) n after off = let i0 = from_at before n after in grind (arith, i0, or_parts, cond-false)

pub live_head : (before tail : List Node) (x : ℕ) → Some x ≡ head (ids_in tail) → live x (before ++ tail) ≡ true
live_head before [] x e = absurd (none-some x (sym e))
live_head before (n ∷ rest) x e = ap (λ i. live i (before ++ (n ∷ rest))) (same_Some x n.id e) ∙ listed_at before n rest

-- a live node stands somewhere
pub record Stands (nodes : List Node) (a : ℕ) : Type 0 where
  pub before : List Node
  pub node : Node
  pub after : List Node
  pub split : nodes ≡ before ++ (node ∷ after)
  pub is : node.id ≡ a

pub stands : (nodes : List Node) (a : ℕ) → live a nodes ≡ true → Stands nodes a
stands [] a on = absurd (false≢true on)
stands (n ∷ rest) a on =
    elim (or_cases (eqb a n.id) (lists a (ids_in rest)) on) [
      | inl e ↦ record { before = []; node = n; after = rest; split = refl; is = sym (eqb-true a n.id e) }
      | inr l ↦
          let s = stands rest a l in
          record { before = n ∷ s.before; node = s.node; after = s.after; split = ap (λ t. n ∷ t) s.split; is = s.is }
    ]

-- ---- nodes whose numbers rise

pub later_than : (before : List Node) (n : Node) (after : List Node) (y : ℕ) → Rising (ids_in (before ++ (n ∷ after))) → live y after ≡ true → n.id < y
later_than [] n after y r on = r.0 y on
later_than (m ∷ before) n after y r on = later_than before n after y r.1 on

pub sooner_than : (before : List Node) (n : Node) (after : List Node) (x : ℕ) → Rising (ids_in (before ++ (n ∷ after))) → live x before ≡ true → x < n.id
sooner_than [] n after x r on = absurd (false≢true on)
sooner_than (m ∷ before) n after x r on =
    elim (or_cases (eqb x m.id) (lists x (ids_in before)) on) [
      | inl e ↦ let q = eqb-true x m.id e in let l = r.0 n.id (listed_at before n after) in omega (arith, q, l)
      | inr l ↦ sooner_than before n after x r.1 l
    ]

-- a node with a greater number is after it
pub is_after : (before : List Node) (n : Node) (after : List Node) (y : ℕ) → Rising (ids_in (before ++ (n ∷ after))) → live y (before ++ (n ∷ after)) ≡ true → n.id < y → live y after ≡ true
is_after [] n after y r on lt = elim (or_cases (eqb y n.id) (lists y (ids_in after)) on) [ inl e ↦ (let q = eqb-true y n.id e in absurd (omega (arith, q, lt))) | inr l ↦ l ]
is_after (m ∷ before) n after y r on lt =
    elim (or_cases (eqb y m.id) (lists y (ids_in (before ++ (n ∷ after)))) on) [
      | inl e ↦ let q = eqb-true y m.id e in let l = r.0 n.id (listed_at before n after) in absurd (omega (arith, q, l, lt))
      | inr l ↦ is_after before n after y r.1 l lt
    ]

pub rising_last : (xs ys : List Node) → Rising (ids_in (xs ++ ys)) → Rising (ids_in ys)
rising_last [] ys r = r
rising_last (x ∷ xs) ys r = rising_last xs ys r.1

-- no node is before the first one
pub head_least : (nodes : List Node) (y : ℕ) → Rising (ids_in nodes) → live y nodes ≡ true → IsBefore y (head (ids_in nodes)) → ⊥
head_least [] y r on b = false≢true on
head_least (n ∷ rest) y r on b = grind (arith, eqb-true)

-- the next node after a live one
next_is : (nodes : List Node) (x : ℕ) (next : Option ℕ) (s : Stands nodes x) → NoTwice (ids_in nodes) → next ≡ next_in x (ids_in nodes) → next ≡ head (ids_in s.after)
next_is nodes x next s d e = grind (arith, next_at, apart)

-- and none is between a node and the next one
pub next_least : (nodes : List Node) (x : ℕ) (next : Option ℕ) → Rising (ids_in nodes) → NoTwice (ids_in nodes) → live x nodes ≡ true → next ≡ next_in x (ids_in nodes)
    → (y : ℕ) → live y nodes ≡ true → x < y → IsBefore y next → ⊥
next_least nodes x next r d on e y there lt b =
    let s = stands nodes x on in
    let r2 : Rising (ids_in (s.before ++ (s.node ∷ s.after))) = subst (λ (l : List Node). Rising (ids_in l)) s.split r in
    head_least s.after y (rising_last (s.before ++ (s.node ∷ [])) s.after (subst (λ (l : List Node). Rising (ids_in l)) (sym (append_assoc s.before (s.node ∷ []) s.after)) r2))
    (is_after s.before s.node s.after y r2 (ap (live y) (sym s.split) ∙ there) (omega (arith, lt, s.is))) (subst (λ (o : Option ℕ). IsBefore y o) (next_is nodes x next s d e) b)

pub next_later : (nodes : List Node) (x : ℕ) (next : Option ℕ) → Rising (ids_in nodes) → NoTwice (ids_in nodes) → live x nodes ≡ true → next ≡ next_in x (ids_in nodes) → IfSome next (λ b. (live b nodes ≡ true) × (x < b))
next_later nodes x next r d on e =
    let s = stands nodes x on in
    let r2 : Rising (ids_in (s.before ++ (s.node ∷ s.after))) = subst (λ (l : List Node). Rising (ids_in l)) s.split r in
    subst (λ (o : Option ℕ). IfSome o (λ b. (live b nodes ≡ true) × (x < b))) (sym (next_is nodes x next s d e)) (later s.before s.node s.after nodes x s.split s.is r2)
  where
    later : (before : List Node) (n : Node) (after nodes : List Node) (x : ℕ) → nodes ≡ before ++ (n ∷ after) → n.id ≡ x → Rising (ids_in (before ++ (n ∷ after))) → IfSome (head (ids_in after)) (λ b. (live b nodes ≡ true) × (x < b))
    later before n [] nodes x s i r = tt
    later before n (m ∷ after) nodes x s i r = (
      ap (live m.id) (s ∙ sym (append_assoc before (n ∷ []) (m ∷ after))) ∙ listed_at (before ++ (n ∷ [])) m after,
      (let lt = later_than before n (m ∷ after) m.id r (listed_at [] m after) in omega (arith, lt, i)),
    )

pub gate_split : (nodes before : List Node) (n : Node) (after : List Node) (x : ℕ) → NoTwice (ids_in nodes) → nodes ≡ before ++ (n ∷ after) → n.id ≡ x → node_gate x nodes ≡ n.gate
gate_split nodes before n after x d s i =
    ap (λ y. node_gate y nodes) (sym i) ∙ ap (node_gate n.id) s ∙ gate_at_node before n after (apart before n after (subst (λ (l : List Node). NoTwice (ids_in l)) s d))

pub live_first : (x : ℕ) (xs ys : List Node) → live x xs ≡ true → live x (xs ++ ys) ≡ true
live_first x [] ys on = absurd (false≢true on)
live_first x (m ∷ xs) ys on = elim (or_cases (eqb x m.id) (lists x (ids_in xs)) on) [ inl e ↦ or_left (eqb x m.id) _ e | inr l ↦ or_right (eqb x m.id) _ (live_first x xs ys l) ]

pub live_last : (x : ℕ) (xs ys : List Node) → live x ys ≡ true → live x (xs ++ ys) ≡ true
live_last x [] ys on = on
live_last x (m ∷ xs) ys on = or_right (eqb x m.id) _ (live_last x xs ys on)

-- what holds of the gates of live nodes holds of each of some nodes
unfoldable pub Each : (ℕ → Shape → Type 0) → List Node → Type 0
Each P [] = Unit {0}
Each P (n ∷ rest) = P n.id n.gate × Each P rest

pub each_of : (P : ℕ → Shape → Type 0) (nodes front between back : List Node) → nodes ≡ front ++ (between ++ back) → NoTwice (ids_in nodes)
    → ((x : ℕ) → live x between ≡ true → live x nodes ≡ true → P x (node_gate x nodes)) → Each P between
unfolding Each
each_of P nodes front [] back e d all = tt
each_of P nodes front (m ∷ rest) back e d all =
    let on : live m.id nodes ≡ true = ap (live m.id) e ∙ listed_at front m (rest ++ back) in
    let is : node_gate m.id nodes ≡ m.gate = ap (node_gate m.id) e ∙ gate_at_node front m (rest ++ back) (apart front m (rest ++ back) (subst (λ (l : List Node). NoTwice (ids_in l)) e d)) in (
      subst (λ (g : Shape). P m.id g) is (all m.id (listed_at [] m rest) on),
      each_of P nodes (front ++ (m ∷ [])) rest back (e ∙ sym (append_assoc front (m ∷ []) (rest ++ back))) d (λ x l on2. all x (or_right (eqb x m.id) _ l) on2),
    )

-- what holds of those after a node
pub after_each : (P : ℕ → Shape → Type 0) (nodes : List Node) (a : ℕ) (s : Stands nodes a) → Rising (ids_in nodes) → NoTwice (ids_in nodes)
    → ((x : ℕ) → live x nodes ≡ true → a < x → P x (node_gate x nodes)) → Each P s.after
after_each P nodes a s r d all =
    each_of P nodes (s.before ++ (s.node ∷ [])) s.after []
    (s.split ∙ sym (append_assoc s.before (s.node ∷ []) s.after) ∙ ap (λ l. (s.before ++ (s.node ∷ [])) ++ l) (sym (append-nil s.after))) d
    (λ x l on. all x on (let q = later_than s.before s.node s.after x (subst (λ (l : List Node). Rising (ids_in l)) s.split r) l in omega (arith, q, s.is)))

-- two nodes, and those between
pub record Between (nodes : List Node) (a b : ℕ) : Type 0 where
  pub before : List Node
  pub first : Node
  pub between : List Node
  pub second : Node
  pub after : List Node
  pub split : nodes ≡ before ++ (first ∷ (between ++ (second ∷ after)))
  pub whole : nodes ≡ (before ++ (first ∷ between)) ++ (second ∷ after)
  pub is_first : first.id ≡ a
  pub is_second : second.id ≡ b
  pub gate_first : node_gate a nodes ≡ first.gate
  pub gate_second : node_gate b nodes ≡ second.gate

pub between_of : (nodes : List Node) (a b : ℕ) → Rising (ids_in nodes) → NoTwice (ids_in nodes) → live a nodes ≡ true → live b nodes ≡ true → a < b → Between nodes a b
between_of nodes a b r d on there lt =
    let s = stands nodes a on in
    let t = stands s.after b (is_after s.before s.node s.after b (subst (λ (l : List Node). Rising (ids_in l)) s.split r) (ap (live b) (sym s.split) ∙ there) (omega (arith, s.is, lt))) in
    let split : nodes ≡ s.before ++ (s.node ∷ (t.before ++ (t.node ∷ t.after))) = s.split ∙ ap (λ l. s.before ++ (s.node ∷ l)) t.split in
    let whole : nodes ≡ (s.before ++ (s.node ∷ t.before)) ++ (t.node ∷ t.after) = split ∙ sym (append_assoc s.before (s.node ∷ t.before) (t.node ∷ t.after)) in
    record {
      before = s.before;
      first = s.node;
      between = t.before;
      second = t.node;
      after = t.after;
      split = split;
      whole = whole;
      is_first = s.is;
      is_second = t.is;
      gate_first = gate_split nodes s.before s.node _ a d split s.is;
      gate_second = gate_split nodes (s.before ++ (s.node ∷ t.before)) t.node t.after b d whole t.is;
    }

pub between_each : (P : ℕ → Shape → Type 0) (nodes : List Node) (a b : ℕ) (k : Between nodes a b) → Rising (ids_in nodes) → NoTwice (ids_in nodes)
    → ((x : ℕ) → live x nodes ≡ true → a < x → x < b → P x (node_gate x nodes)) → Each P k.between
between_each P nodes a b k r d all =
    let tail : List Node = k.second ∷ k.after in
    let front : List Node = k.before ++ (k.first ∷ []) in
    each_of P nodes front k.between tail (k.split ∙ sym (append_assoc k.before (k.first ∷ []) (k.between ++ tail))) d
    (λ x l on.
    let q = later_than k.before k.first (k.between ++ tail) x (subst (λ (l : List Node). Rising (ids_in l)) k.split r) (live_first x k.between tail l) in
    let p = sooner_than (k.before ++ (k.first ∷ k.between)) k.second k.after x (subst (λ (l : List Node). Rising (ids_in l)) k.whole r) (live_last x k.before (k.first ∷ k.between) (or_right (eqb x k.first.id) _ l)) in
    all x on (omega (arith, q, k.is_first)) (omega (arith, p, k.is_second)))
