-- The search for the partner of a node.
use Rattle.std.proofs.Common.{◌≡◌, ◌<◌, ◌≤◌, ℕ, true, false, List, [], ◌∷◌, ◌++◌, refl, sym, ◌∙◌, ap, arith}
use Rattle.std.specs.Prelude.{Option, Some, None}
use Rattle.std.proofs.lemmas.Bool.{and_from}
use Rattle.std.proofs.lemmas.List.{append-nil, map-append}
use Rattle.rv_gate.specs.Commuting.{rule}
use Rattle.rv_gate.specs.declared.gate.Shape.{Shape}
use Rattle.rv_links.specs.Order.{NoTwice, Rising}
use Rattle.rv_links.specs.Nodes.{Node, ids_in, live, node_gate, gates_in}
use Rattle.rv_templ.specs.Pairs.{paired, partner, after_gates}
use Rattle.rv_templ.specs.inside.Mates.{Mate, NoMate, Joinless, passes, Candidate}
use Rattle.rv_templ.proofs.PairSteps.{partner_none, partner_pass, partner_here, partner_nil, after_twice, after_nothing}
use Rattle.rv_templ.proofs.NodeLists.{stands, gate_split, after_each, between_of, between_each, Each}

-- ---- gates that the first one makes no pair with

-- no partner after them, no partner
none_after : (g : Shape) (xs ys : List Shape) → Joinless g xs → partner g ys ≡ None → partner g (xs ++ ys) ≡ None
none_after g [] ys j e = e
none_after g (x ∷ xs) ys j e = let i0 = none_after g xs ys j.1 e in grind (arith, i0, partner_pass, partner_none)

none_among : (g : Shape) (xs : List Shape) → Joinless g xs → partner g xs ≡ None
none_among g xs j = ap (partner g) (sym (append-nil xs)) ∙ none_after g xs [] j (partner_nil g)

-- it passes them
passed : (g : Shape) (xs ys : List Shape) → Joinless g xs → passes g xs ≡ true → partner g (xs ++ ys) ≡ after_gates xs (partner g ys)
passed g [] ys j free = sym (after_nothing (partner g ys))
passed g (x ∷ xs) ys j free = let i0 = passed g xs ys j.1 in grind (arith, i0, partner_pass, after_twice)

pub joinless_each : (g : Shape) (l : List Node) → Each (λ x h. paired g h ≡ None) l → Joinless g (gates_in l)
unfolding Each
joinless_each g [] k = tt
joinless_each g (n ∷ rest) k = (k.0, joinless_each g rest k.1)

pub passes_each : (g : Shape) (l : List Node) → Each (λ x h. rule g h ≡ true) l → passes g (gates_in l) ≡ true
unfolding Each
passes_each g [] k = refl
passes_each g (n ∷ rest) k = and_from (rule g n.gate) (passes g (gates_in rest)) k.0 (passes_each g rest k.1)

-- none after it
pub partner_nowhere : (nodes : List Node) (a : ℕ) → Rising (ids_in nodes) → NoTwice (ids_in nodes) → live a nodes ≡ true
    → ((x : ℕ) → live x nodes ≡ true → a < x → paired (node_gate a nodes) (node_gate x nodes) ≡ None) → NoMate nodes a
partner_nowhere nodes a r d on none =
    let g = node_gate a nodes in
    let s = stands nodes a on in
    record {
      before = s.before;
      first = s.node;
      after = s.after;
      split = s.split;
      is = s.is;
      none = rw (← gate_split nodes s.before s.node s.after a d s.split s.is) (none_among g (gates_in s.after) (joinless_each g s.after (after_each (λ x h. paired g h ≡ None) nodes a s r d none)));
    }

-- none up to a node with which it does not commute
pub stopped : (nodes : List Node) (a s : ℕ) → Rising (ids_in nodes) → NoTwice (ids_in nodes) → live a nodes ≡ true → live s nodes ≡ true → a < s
    → ((x : ℕ) → live x nodes ≡ true → a < x → x < s → paired (node_gate a nodes) (node_gate x nodes) ≡ None) → paired (node_gate a nodes) (node_gate s nodes) ≡ None → rule (node_gate a nodes) (node_gate s nodes) ≡ false → NoMate nodes a
stopped nodes a s r d on there lt none here stop =
    let g = node_gate a nodes in
    let k = between_of nodes a s r d on there lt in
    record {
      before = k.before;
      first = k.first;
      after = k.between ++ (k.second ∷ k.after);
      split = k.split;
      is = k.is_first;
      none = rw (← k.gate_first, map-append (λ (n : Node). n.gate) k.between (k.second ∷ k.after))
          (none_after g (gates_in k.between) (gates_in (k.second ∷ k.after)) (joinless_each g k.between (between_each (λ x h. paired g h ≡ None) nodes a s k r d none))
          (partner_none g k.second.gate (gates_in k.after) (rw (← k.gate_second) here) (rw (← k.gate_second) stop)));
    }

-- ---- candidates

pub none_or : (o : Option (List Shape)) → ((m : List Shape) → o ≡ Some m → ⊥) → o ≡ None
none_or None f = refl
none_or (Some m) f = absurd (f m refl)

-- the first one that joins
pub partner_at : (nodes : List Node) (a b : ℕ) (m : List Shape) → live a nodes ≡ true → live b nodes ≡ true → a < b → paired (node_gate a nodes) (node_gate b nodes) ≡ Some m
    → ((x : ℕ) → live x nodes ≡ true → a < x → (k : List Shape) → paired (node_gate a nodes) (node_gate x nodes) ≡ Some k → b ≤ x) → Candidate nodes a b
partner_at nodes a b m on there lt j least = record {
  on = on;
  there = there;
  later = lt;
  joinless = λ x l late soon. none_or _ (λ k some. let le = least x l late k some in omega (arith, le, soon));
  gates = m;
  join = j;
}

-- a candidate with which the gate commutes up to it
pub candidate_mate : (nodes : List Node) (a b : ℕ) → Rising (ids_in nodes) → NoTwice (ids_in nodes) → Candidate nodes a b
    → ((x : ℕ) → live x nodes ≡ true → a < x → x < b → rule (node_gate a nodes) (node_gate x nodes) ≡ true) → Mate nodes a b
candidate_mate nodes a b r d c all =
    let g = node_gate a nodes in
    let k = between_of nodes a b r d c.on c.there c.later in
    let joinless = joinless_each g k.between (between_each (λ x h. paired g h ≡ None) nodes a b k r d c.joinless) in
    let free = passes_each g k.between (between_each (λ x h. rule g h ≡ true) nodes a b k r d all) in
    let join : paired g k.second.gate ≡ Some c.gates = rw (← k.gate_second) c.join in
    record {
      before = k.before;
      first = k.first;
      between = k.between;
      second = k.second;
      after = k.after;
      split = k.split;
      is_first = k.is_first;
      is_second = k.is_second;
      gates = c.gates;
      join = rw (← k.gate_first) join;
      step = rw (← k.gate_first, map-append (λ (n : Node). n.gate) k.between (k.second ∷ k.after))
          (passed g (gates_in k.between) (gates_in (k.second ∷ k.after)) joinless free
          ∙ ap (after_gates (gates_in k.between)) (partner_here g k.second.gate (gates_in k.after) c.gates join));
    }

-- a candidate after a node with which it does not commute
pub candidate_stopped : (nodes : List Node) (a b s : ℕ) → Rising (ids_in nodes) → NoTwice (ids_in nodes) → Candidate nodes a b → live s nodes ≡ true → a < s → s < b
    → rule (node_gate a nodes) (node_gate s nodes) ≡ false → NoMate nodes a
candidate_stopped nodes a b s r d k on late soon stop =
    stopped nodes a s r d k.on on late (λ x o q p. k.joinless x o q (omega (arith, p, soon))) (k.joinless s on late soon) stop
