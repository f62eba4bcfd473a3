-- The notes after a pair was made, and after a window was replaced.
use Rattle.std.proofs.lemmas.Grind.{common_steps}
use Rattle.std.proofs.Common.{◌≡◌, ℕ, zero, suc, ◌+◌, ◌-◌, ◌<◌, ◌≤◌, true, false, eqb, List, [], ◌∷◌, ◌++◌, length, map, take, drop, refl, sym, ◌∙◌, ap, inl, inr, arith, subst, append_assoc, take-append-drop, length-drop}
use Rattle.std.specs.Prelude.{◌⊎◌, Some, None, bit_and, bit_xor}
use Rattle.std.proofs.Math.Seq.{take-add}
use Rattle.std.proofs.lemmas.Nat.{and_comm, xor_comm}
use Rattle.std.proofs.lemmas.Bool.{false≢true, or_cases, eqb-true, cases_eq}
use Rattle.std.proofs.lemmas.List.{drop-drop, append-nil, length-take-le, take-take}
use Rattle.rv_gate.specs.declared.gate.Shape.{Shape}
use Rattle.rv_gate.specs.Gate.{controls, wanted, is_flip}
use Rattle.rv_gate.specs.Commuting.{meet, opposed, rule}
use Rattle.rv_links.specs.Order.{lists, head, next_in, NoTwice, Rising}
use Rattle.rv_links.specs.Nodes.{Node, ids_in, gates_in, live, node_gate, noted}
use Rattle.rv_links.specs.inside.Chains.{nodes_from}
use Rattle.rv_templ.specs.Pairs.{partner}
use Rattle.rv_templ.specs.inside.Mates.{Mate, NoMate, IsStop, passes}
use Rattle.rv_templ.specs.inside.Notes.{Fewer, Others, Quiet, Noted, NoneNoted, Apart, Kept, node_of, coupled}
use Rattle.rv_templ.proofs.JoinedLines.{paired_short}
use Rattle.rv_templ.proofs.inside.LinkedPairs.{before_second}
use Rattle.rv_templ.proofs.inside.LinkedWindows.{head_at}
use Rattle.rv_templ.proofs.inside.PairWalk.{node_here}
use Rattle.rv_templ.proofs.inside.PartnerWalk.{passes_each}
use Rattle.rv_templ.proofs.NodeLists.{listed_at, live_last, gate_split, later_than, sooner_than, is_after, rising_last, each_of}
use Rattle.rv_templ.proofs.Options.{after_none}
use Rattle.rv_templ.proofs.PairSteps.{partner_pass}
use Rattle.rv_templ.proofs.inside.NoteLaws.{fewer_on, fewer_set, fewer_noted, fewer_zero, kept_split, kept_before, noted_last, noted_far, unknown_noted, unknown_split, quiet_more, free_quiet, not_joined}

-- ---- gates that commute with all

opposed_comm : (g h : Shape) → opposed g h ≡ opposed h g
opposed_comm g h = ap (λ n. meet n (bit_xor (wanted g) (wanted h))) (and_comm (controls g) (controls h)) ∙ ap (meet (bit_and (controls h) (controls g))) (xor_comm (wanted g) (wanted h))

-- the rule is the same in both orders
pub rule_comm : (g h : Shape) → rule g h ≡ rule h g
unfolding rule
rule_comm g h = grind (arith, common_steps, is_flip, opposed_comm)

-- where both nodes' gates commute with all, no note names one of them
pub kept_free : (notes : List ℕ) (first second : Node) (gates : List Shape) (l : List Node) → passes first.gate (gates_in l) ≡ true → passes second.gate (gates_in l) ≡ true → Apart notes gates l → Kept notes first second gates l
kept_free notes first second gates [] p q k = tt
kept_free notes first second gates (n ∷ rest) p q k = let i0 = kept_free notes first second gates rest in grind (arith, i0, rule_comm)

-- ---- a pair is made

pub drop_within : (k : ℕ) (xs ys : List Node) → k ≤ length xs → drop k (xs ++ ys) ≡ drop k xs ++ ys
drop_within zero xs ys le = refl
drop_within (suc k) [] ys le = absurd (omega arith)
drop_within (suc k) (x ∷ xs) ys le = drop_within k xs ys (omega arith)

pub pair_right : (nodes : List Node) (notes : List ℕ) (a b far low : ℕ) (m : Mate nodes a b) → low ≤ length m.before → (low ≡ 0) ⊎ (low + far ≤ length m.before) → noted b notes ≡ 0 → Noted notes nodes far
    → Kept notes m.first m.second m.gates (drop low (m.before ++ (m.first ∷ m.between))) → Noted notes (coupled nodes a b m) far
pair_right nodes notes a b far low m le near z right kept =
    let ps : List Node = take low m.before in
    let ns : List Node = drop low m.before in
    let rest : List Node = m.first ∷ (m.between ++ (m.second ∷ m.after)) in
    let now : List Node = m.between ++ (map (node_of b) m.gates ++ m.after) in
    let both : ps ++ ns ≡ m.before = take-append-drop low m.before in
    let k = kept_split notes m.first m.second m.gates ns (m.first ∷ m.between) (subst (λ (l : List Node). Kept notes m.first m.second m.gates l) (drop_within low m.before (m.first ∷ m.between) le) kept) in
    let whole : nodes ≡ ps ++ (ns ++ rest) = m.split ∙ ap (λ l. l ++ rest) (sym both) ∙ append_assoc ps ns rest in
    let old : Noted notes (ps ++ (ns ++ rest)) far = subst (λ (l : List Node). Noted notes l far) whole right in
    let later : Noted notes (ns ++ now) far = kept_before notes b m.first m.second m.gates ns m.between m.after far (paired_short m.first.gate m.second.gate m.gates m.join) z k.0 k.1.1 (noted_last notes ps (ns ++ rest) far old) in
    let new : ps ++ (ns ++ now) ≡ coupled nodes a b m = sym (append_assoc ps ns now) ∙ ap (λ l. l ++ now) both in
    elim near [
      | inl front ↦
          let none : [] ≡ ps = ap (λ k. take k m.before) (sym front) in
          subst (λ (l : List Node). Noted notes l far) new (subst (λ (l : List Node). Noted notes (l ++ (ns ++ now)) far) none later)
      | inr far_on ↦
          subst (λ (l : List Node). Noted notes l far) new
          (noted_far notes ps ns m.first (m.between ++ (m.second ∷ m.after)) now far (omega (arith, far_on, length-drop low m.before)) old later)
    ]

-- the note of the second node went, and others that may be wrong
pub settled : (nodes : List Node) (old set new : List ℕ) (a b far low : ℕ) (m : Mate nodes a b) → noted b set ≡ 0 → Others b old set → Fewer set new → Noted old nodes far → low ≤ length m.before → (low ≡ 0) ⊎ (low + far ≤ length m.before)
    → Kept new m.first m.second m.gates (drop low (m.before ++ (m.first ∷ m.between))) → Noted new (coupled nodes a b m) far
settled nodes old set new a b far low m z o f right le near kept =
    pair_right nodes new a b far low m le near (fewer_zero set new b f z) (fewer_noted old new nodes far (fewer_on old set new (fewer_set old set b z o) f) right) kept

-- the same where both gates commute with all before the second one
pub settled_free : (nodes : List Node) (old set new : List ℕ) (a b far : ℕ) (m : Mate nodes a b) → noted b set ≡ 0 → Others b old set → Fewer set new → Noted old nodes far
    → passes m.first.gate (gates_in (m.before ++ (m.first ∷ m.between))) ≡ true → passes m.second.gate (gates_in (m.before ++ (m.first ∷ m.between))) ≡ true
    → Apart new m.gates (m.before ++ (m.first ∷ m.between)) → Noted new (coupled nodes a b m) far
settled_free nodes old set new a b far m z o f right p q k =
    settled nodes old set new a b far 0 m z o f right (omega arith) (inl refl) (kept_free new m.first m.second m.gates (m.before ++ (m.first ∷ m.between)) p q k)

-- a gate that commutes with that of each node before the second one
pub free_passes : (nodes : List Node) (a b : ℕ) (m : Mate nodes a b) (g h : Shape) → Rising (ids_in nodes) → NoTwice (ids_in nodes) → g ≡ h
    → ((id : ℕ) → live id nodes ≡ true → id < b → rule g (node_gate id nodes) ≡ true) → passes h (gates_in (m.before ++ (m.first ∷ m.between))) ≡ true
free_passes nodes a b m g h r d e all =
    let xs : List Node = m.before ++ (m.first ∷ m.between) in
    let s = before_second nodes a b m in
    rw (← e) (passes_each g xs
    (each_of (λ x h. rule g h ≡ true) nodes [] xs (m.second ∷ m.after) s d
    (λ x l on. all x on (let lt = sooner_than xs m.second m.after x (subst (λ (k : List Node). Rising (ids_in k)) s r) l in omega (arith, lt, m.is_second)))))

-- ---- a node whose gate makes no pair

pub mate_none : (nodes : List Node) (a : ℕ) → NoTwice (ids_in nodes) → live a nodes ≡ true → NoMate nodes a → partner (node_gate a nodes) (gates_in (nodes_from (next_in a (ids_in nodes)) nodes)) ≡ None
mate_none nodes a d on k = grind (arith, node_here, gates_in, nodes_from, next_in, ids_in)

-- numbers that rise after a are no more than those up to the greatest one
few_after : (l : List Node) (a left : ℕ) → Rising (ids_in l) → ((x : ℕ) → live x l ≡ true → a < x) → ((x : ℕ) → live x l ≡ true → x ≤ a + left) → length l ≤ left
few_after [] a left r late most = omega arith
few_after (n ∷ rest) a left r late most =
    let here : live n.id (n ∷ rest) ≡ true = listed_at [] n rest in
    let lt = late n.id here in
    let le = most n.id here in
    let fewer = few_after rest n.id (a + left - n.id) r.1 r.0 (λ x on. let le1 = most x (live_last x (n ∷ []) rest on) in omega (arith, le, le1)) in
    omega (arith, lt, le, fewer)

-- with all after it it commutes
pub quiet_end : (nodes : List Node) (a left : ℕ) → Rising (ids_in nodes) → NoTwice (ids_in nodes) → live a nodes ≡ true → NoMate nodes a → ((x : ℕ) → live x nodes ≡ true → a < x → rule (node_gate a nodes) (node_gate x nodes) ≡ true)
    → ((x : ℕ) → live x nodes ≡ true → x ≤ a + left) → Quiet 1 (node_gate a nodes) (nodes_from (next_in a (ids_in nodes)) nodes) left
quiet_end nodes a left r d on k all most =
    let h = node_here nodes k.before k.first k.after a d k.split k.is on in
    let g = node_gate a nodes in
    let rest : List Node = nodes_from (next_in a (ids_in nodes)) nodes in
    let front : List Node = k.before ++ (k.first ∷ []) in
    let short : nodes ≡ front ++ k.after = k.split ∙ sym (append_assoc k.before (k.first ∷ []) k.after) in
    let whole : nodes ≡ front ++ (k.after ++ []) = short ∙ ap (λ l. front ++ l) (sym (append-nil k.after)) in
    let r2 : Rising (ids_in (k.before ++ (k.first ∷ k.after))) = subst (λ (l : List Node). Rising (ids_in l)) k.split r in
    let late : (x : ℕ) → live x k.after ≡ true → a < x = λ x l. let q = later_than k.before k.first k.after x r2 l in omega (arith, q, k.is) in
    let each = each_of (λ x h. rule g h ≡ true) nodes front k.after [] whole d (λ x l o. all x o (late x l)) in
    let few = few_after k.after a left (rising_last front k.after (subst (λ (l : List Node). Rising (ids_in l)) short r)) late (λ x l. most x (ap (live x) short ∙ live_last x front k.after l)) in
    quiet_more 1 g rest (length rest) left (omega (arith, few, ap length h.1)) (free_quiet g rest (mate_none nodes a d on k) (ap (λ l. passes g (gates_in l)) h.1 ∙ passes_each g k.after each))

-- up to a node with which it does not commute
stop_walk : (nodes front rest : List Node) (g : Shape) (s a far : ℕ) → NoTwice (ids_in nodes) → Rising (ids_in rest) → nodes ≡ front ++ rest → partner g (gates_in rest) ≡ None
    → ((x : ℕ) → live x nodes ≡ true → a < x → x < s → rule g (node_gate x nodes) ≡ true) → live s rest ≡ true → rule g (node_gate s nodes) ≡ false → ((x : ℕ) → live x rest ≡ true → a < x) → s ≤ a + far → Quiet (s + 2) g rest far
stop_walk nodes front [] g s a far d r e none free on stop late le = absurd (false≢true on)
stop_walk nodes front (n ∷ rest) g s a zero d r e none free on stop late le = let lt = late s on in absurd (omega (arith, lt, le))
stop_walk nodes front (n ∷ rest) g s a (suc far) d r e none free on stop late le =
    let apart = not_joined g n.gate (gates_in rest) none in
    let is : node_gate n.id nodes ≡ n.gate = gate_split nodes front n rest n.id d e refl in
    elim (or_cases (eqb s n.id) (lists s (ids_in rest)) on) [
      | inl same ↦
          let q = eqb-true s n.id same in
          (apart, inl (ap (λ k. k + 2) q, ap (rule g) (sym is) ∙ ap (λ k. rule g (node_gate k nodes)) (sym q) ∙ stop))
      | inr l ↦
          let first = late n.id (listed_at [] n rest) in
          let soon = r.0 s l in
          let pass : rule g n.gate ≡ true = ap (rule g) (sym is) ∙ free n.id (ap (live n.id) e ∙ listed_at front n rest) first soon in
          let later = after_none (n.gate ∷ []) (partner g (gates_in rest)) (sym (partner_pass g n.gate (gates_in rest) apart pass) ∙ none) in
          (apart, inr (stop_walk nodes (front ++ (n ∷ [])) rest g s n.id far d r.1 (e ∙ sym (append_assoc front (n ∷ []) rest)) later (λ x o q p. free x o (omega (arith, q, first)) p) l stop r.0 (omega (arith, le, first))))
    ]

pub quiet_stop : (nodes : List Node) (a s far : ℕ) → Rising (ids_in nodes) → NoTwice (ids_in nodes) → live a nodes ≡ true → NoMate nodes a → IsStop nodes (node_gate a nodes) a (Some s) → s ≤ a + far
    → Quiet (s + 2) (node_gate a nodes) (nodes_from (next_in a (ids_in nodes)) nodes) far
quiet_stop nodes a s far r d on k stop le =
    let h = node_here nodes k.before k.first k.after a d k.split k.is on in
    let front : List Node = k.before ++ (k.first ∷ []) in
    let whole : nodes ≡ front ++ k.after = k.split ∙ sym (append_assoc k.before (k.first ∷ []) k.after) in
    let r2 : Rising (ids_in (k.before ++ (k.first ∷ k.after))) = subst (λ (l : List Node). Rising (ids_in l)) k.split r in
    let at = stop.at in
    let beyond = is_after k.before k.first k.after s r2 (ap (live s) (sym k.split) ∙ at.0) (omega (arith, at.1, k.is)) in
    subst (λ (l : List Node). Quiet (s + 2) (node_gate a nodes) l far) (sym h.1)
    (stop_walk nodes front k.after (node_gate a nodes) s a far d (rising_last front k.after (subst (λ (l : List Node). Rising (ids_in l)) whole r)) whole
    (ap (λ l. partner (node_gate a nodes) (gates_in l)) (sym h.1) ∙ mate_none nodes a d on k) (λ x o q p. stop.free x o q p) beyond at.3
    (λ x l. let q = later_than k.before k.first k.after x r2 l in omega (arith, q, k.is)) le)

-- ---- a window is replaced

pub none_first : (notes : List ℕ) (c : ℕ) (l : List Node) → NoneNoted notes l → NoneNoted notes (take c l)
none_first notes zero l u = tt
none_first notes (suc c) [] u = tt
none_first notes (suc c) (n ∷ rest) u = (u.0, none_first notes c rest u.1)

pub window_right : (nodes new : List Node) (notes : List ℕ) (place a low count most far : ℕ) → Some a ≡ head (ids_in (drop place nodes)) → place ≤ length nodes → low ≡ place - far → low ≤ place → count ≤ most
    → NoneNoted notes (take (place - low + most) (drop low nodes)) → Noted notes nodes far → take place new ≡ take place nodes
    → (NoneNoted notes (take count (drop place nodes)) → Noted notes (drop place nodes) far → Noted notes (drop place new) far) → Noted notes new far
window_right nodes new notes place a low count most far at within el le few none right front made =
    let d : ℕ = place - low in
    let ps : List Node = take low nodes in
    let ns : List Node = take d (drop low nodes) in
    let on : low + d ≡ place = omega (arith, le) in
    let later : drop d (drop low nodes) ≡ drop place nodes = drop-drop d low nodes ∙ ap (λ k. drop k nodes) on in
    let both : ps ++ ns ≡ take place nodes = sym (take-add low d nodes) ∙ ap (λ k. take k nodes) on in
    let u = unknown_split notes ns (take most (drop place nodes)) (subst (λ (l : List Node). NoneNoted notes l) (take-add d most (drop low nodes) ∙ ap (λ l. ns ++ take most l) later) none) in
    let p = head_at nodes place a at in
    let tail : List Node = drop (place + 1) nodes in
    let whole : nodes ≡ ps ++ (ns ++ (p.0 ∷ tail)) =
    sym (take-append-drop place nodes) ∙ ap (λ l. take place nodes ++ l) p.2 ∙ ap (λ l. l ++ (p.0 ∷ tail)) (sym both) ∙ append_assoc ps ns (p.0 ∷ tail) in
    let old : Noted notes (ps ++ (ns ++ (p.0 ∷ tail))) far = subst (λ (l : List Node). Noted notes l far) whole right in
    let rest : Noted notes (drop place nodes) far = subst (λ (l : List Node). Noted notes l far) (sym p.2) (noted_last notes ns (p.0 ∷ tail) far (noted_last notes ps (ns ++ (p.0 ∷ tail)) far old)) in
    let first : NoneNoted notes (take count (drop place nodes)) = subst (λ (l : List Node). NoneNoted notes l) (take-take count most (drop place nodes) few) (none_first notes count (take most (drop place nodes)) u.1) in
    let now : Noted notes (drop place new) far = made first rest in
    let near : Noted notes (ns ++ drop place new) far = unknown_noted notes ns (drop place new) far u.0 now in
    let is : ps ++ (ns ++ drop place new) ≡ new = sym (append_assoc ps ns (drop place new)) ∙ ap (λ l. l ++ drop place new) (both ∙ sym front) ∙ take-append-drop place new in
    elim (cases_eq low 0) [
      | inl z ↦
          let empty : [] ≡ ps = ap (λ k. take k nodes) (sym z) in
          subst (λ (l : List Node). Noted notes l far) is (subst (λ (l : List Node). Noted notes (l ++ (ns ++ drop place new)) far) empty near)
      | inr some ↦
          let len : length ns ≡ d = length-take-le d (drop low nodes) (omega (arith, within, length-drop low nodes, on)) in
          subst (λ (l : List Node). Noted notes l far) is (noted_far notes ps ns p.0 tail (drop place new) far (omega (arith, len, el, some, on)) old near)
    ]
