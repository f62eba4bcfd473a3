-- A pair of nodes is made.
use Rattle.std.proofs.Common.{arith}
use Rattle.std.proofs.lemmas.Grind.{common_steps}
use Rattle.std.proofs.Common.{◌≡◌, ℕ, true, false, eqb, List, map, [], ◌∷◌, ◌++◌, length, take, drop, refl, sym, ◌∙◌, ap, subst, append_assoc}
use Rattle.std.specs.Prelude.{Some}
use Rattle.std.proofs.lemmas.Option.{same_Some}
use Rattle.std.proofs.lemmas.Bool.{or_parts, or_from}
use Rattle.std.proofs.lemmas.List.{map-append, length-map}
use Rattle.std.proofs.Math.Seq.{take-append_seam, drop-append_seam}
use Rattle.rv_templ.specs.Gates.{AreGates}
use Rattle.rv_gate.specs.declared.gate.Shape.{Shape}
use Rattle.rv_links.specs.Order.{lists, head, NoTwice}
use Rattle.rv_links.specs.Nodes.{Node, ids_in, live, node_gate, erased, regated, gates_in}
use Rattle.rv_templ.specs.inside.Mates.{Mate, IsPairSpot, mated}
use Rattle.rv_templ.specs.inside.Notes.{node_of, coupled}
use Rattle.rv_templ.proofs.JoinLaws.{joined_sound}
use Rattle.rv_templ.proofs.GateLists.{AreGates-last}
use Rattle.rv_templ.proofs.NodeLists.{apart, listed_at, gone_at, regated_at, gate_split}

-- the nodes of a pair
abbrev pub row : List Node → Node → List Node → Node → List Node → List Node
row before first between second after = before ++ (first ∷ (between ++ (second ∷ after)))

regroup : (before between after : List Node) (first second : Node) → row before first between second after ≡ (before ++ (first ∷ between)) ++ (second ∷ after)
regroup before between after first second = sym (append_assoc before (first ∷ between) (second ∷ after))

pub first_live : (nodes : List Node) (a b : ℕ) → Mate nodes a b → live a nodes ≡ true
first_live nodes a b m =
    ap (live a) m.split ∙ ap (λ x. live x (row m.before m.first m.between m.second m.after)) (sym m.is_first) ∙ listed_at m.before m.first (m.between ++ (m.second ∷ m.after))

pub second_live : (nodes : List Node) (a b : ℕ) → Mate nodes a b → live b nodes ≡ true
second_live nodes a b m = grind (arith, regroup, listed_at)

pub first_is : (nodes : List Node) (a b : ℕ) (m : Mate nodes a b) → NoTwice (ids_in nodes) → node_gate a nodes ≡ m.first.gate
first_is nodes a b m d = gate_split nodes m.before m.first (m.between ++ (m.second ∷ m.after)) a d m.split m.is_first

pub second_is : (nodes : List Node) (a b : ℕ) (m : Mate nodes a b) → NoTwice (ids_in nodes) → node_gate b nodes ≡ m.second.gate
second_is nodes a b m d = gate_split nodes (m.before ++ (m.first ∷ m.between)) m.second m.after b d (m.split ∙ regroup m.before m.between m.after m.first m.second) m.is_second

-- ---- a pair is made

without_middle : (x : ℕ) (before : List Node) (f : Node) (rest : List Node) → lists x (ids_in (before ++ (f ∷ rest))) ≡ false → lists x (ids_in (before ++ rest)) ≡ false
without_middle x [] f rest e = (or_parts (eqb x f.id) (lists x (ids_in rest)) e).1
without_middle x (m ∷ before) f rest e = let i0 = without_middle x before f rest in grind (arith, i0, or_parts, or_from)

pub gates_row : (xs ys : List Node) → gates_in (xs ++ ys) ≡ gates_in xs ++ gates_in ys
gates_row xs ys = map-append (λ (n : Node). n.gate) xs ys

second_apart : (nodes : List Node) (a b : ℕ) (m : Mate nodes a b) → NoTwice (ids_in nodes) → lists m.second.id (ids_in (m.before ++ m.between)) ≡ false
second_apart nodes a b m d = grind (arith, without_middle, apart, regroup)

first_gone : (nodes : List Node) (a b : ℕ) (m : Mate nodes a b) → NoTwice (ids_in nodes) → erased a nodes ≡ (m.before ++ m.between) ++ (m.second ∷ m.after)
first_gone nodes a b m d = grind (arith, gone_at, apart, append_assoc)

pub still_live : (nodes new : List Node) (a b : ℕ) → NoTwice (ids_in nodes) → Mate nodes a b → new ≡ erased a nodes → live b new ≡ true
still_live nodes new a b d m e =
    ap (live b) (e ∙ first_gone nodes a b m d) ∙ ap (λ x. live x ((m.before ++ m.between) ++ (m.second ∷ m.after))) (sym m.is_second) ∙ listed_at (m.before ++ m.between) m.second m.after

pub both_gone : (nodes one two : List Node) (a b : ℕ) (m : Mate nodes a b) → NoTwice (ids_in nodes) → Some [] ≡ Some m.gates → one ≡ erased a nodes → two ≡ erased b one → two ≡ coupled nodes a b m
both_gone nodes one two a b m d come e1 e2 =
    e2 ∙ ap (erased b) (e1 ∙ first_gone nodes a b m d) ∙ ap (λ x. erased x ((m.before ++ m.between) ++ (m.second ∷ m.after))) (sym m.is_second)
    ∙ gone_at (m.before ++ m.between) m.second m.after (second_apart nodes a b m d) ∙ append_assoc m.before m.between m.after
    ∙ ap (λ l. m.before ++ (m.between ++ (map (node_of b) l ++ m.after))) (same_Some [] m.gates come)

pub one_set : (nodes one two : List Node) (a b : ℕ) (m : Mate nodes a b) (k : Shape) → NoTwice (ids_in nodes) → Some (k ∷ []) ≡ Some m.gates → one ≡ erased a nodes → two ≡ regated b k one → two ≡ coupled nodes a b m
one_set nodes one two a b m k d come e1 e2 =
    e2 ∙ ap (regated b k) (e1 ∙ first_gone nodes a b m d) ∙ ap (λ x. regated x k ((m.before ++ m.between) ++ (m.second ∷ m.after))) (sym m.is_second)
    ∙ regated_at (m.before ++ m.between) m.second m.after k (second_apart nodes a b m d)
    ∙ ap (λ x. (m.before ++ m.between) ++ (node_of x k ∷ m.after)) m.is_second
    ∙ append_assoc m.before m.between (node_of b k ∷ m.after)
    ∙ ap (λ l. m.before ++ (m.between ++ (map (node_of b) l ++ m.after))) (same_Some (k ∷ []) m.gates come)

-- the gates of the pair, and the nodes before it, after it was made
pub coupled_gates : (nodes : List Node) (a b : ℕ) (m : Mate nodes a b) → gates_in (coupled nodes a b m) ≡ mated nodes a b m
coupled_gates nodes a b m =
    gates_row m.before (m.between ++ (map (node_of b) m.gates ++ m.after))
    ∙ ap (λ l. gates_in m.before ++ l) (gates_row m.between (map (node_of b) m.gates ++ m.after))
    ∙ ap (λ l. gates_in m.before ++ (gates_in m.between ++ l)) (gates_row (map (node_of b) m.gates) m.after ∙ ap (λ l. l ++ gates_in m.after) (gates_of m.gates))
  where
    gates_of : (gates : List Shape) → gates_in (map (node_of b) gates) ≡ gates
    gates_of [] = refl
    gates_of (g ∷ gates) = ap (λ l. g ∷ l) (gates_of gates)

pub place_is : (nodes : List Node) (place a b : ℕ) (s : IsPairSpot nodes place a b) → length s.mate.before ≡ place
place_is nodes place a b s = let m = s.mate in sym (length-map m.before (λ (n : Node). n.gate)) ∙ s.count

pub coupled_front : (nodes : List Node) (place a b : ℕ) (s : IsPairSpot nodes place a b) → take place (coupled nodes a b s.mate) ≡ take place nodes
coupled_front nodes place a b s = grind (arith, common_steps, place_is, take-append_seam, node_of)

-- the nodes before the second one
pub before_second : (nodes : List Node) (a b : ℕ) (m : Mate nodes a b) → nodes ≡ (m.before ++ (m.first ∷ m.between)) ++ (m.second ∷ m.after)
before_second nodes a b m = m.split ∙ regroup m.before m.between m.after m.first m.second

pub second_here : (nodes : List Node) (a b : ℕ) (m : Mate nodes a b) → Some b ≡ head (ids_in (drop (length (m.before ++ (m.first ∷ m.between))) nodes))
second_here nodes a b m =
    let xs : List Node = m.before ++ (m.first ∷ m.between) in
    sym (ap (λ l. head (ids_in (drop (length xs) l))) (before_second nodes a b m) ∙ ap (λ l. head (ids_in l)) (drop-append_seam xs (m.second ∷ m.after)) ∙ ap Some m.is_second)

-- what the pair comes to fits the lines
pub made_good : (n : ℕ) (nodes : List Node) (a b : ℕ) (m : Mate nodes a b) → AreGates n (gates_in nodes) → AreGates n m.gates
made_good n nodes a b m good =
    let e : gates_in nodes ≡ gates_in m.before ++ (m.first.gate ∷ (gates_in m.between ++ (m.second.gate ∷ gates_in m.after))) =
    ap gates_in m.split ∙ gates_row m.before (m.first ∷ (m.between ++ (m.second ∷ m.after))) ∙ ap (λ l. gates_in m.before ++ (m.first.gate ∷ l)) (gates_row m.between (m.second ∷ m.after)) in
    let one = AreGates-last n (gates_in m.before) (m.first.gate ∷ (gates_in m.between ++ (m.second.gate ∷ gates_in m.after))) (subst (λ (l : List Shape). AreGates n l) e good) in
    let two = AreGates-last n (gates_in m.between) (m.second.gate ∷ gates_in m.after) one.2 in
    (joined_sound m.first.gate m.second.gate n m.gates one.0 two.0 one.1 two.1 m.join).good

pub coupled_on : (old nodes new : List Node) (a b : ℕ) → old ≡ nodes → ((m : Mate old a b) → new ≡ coupled old a b m) → (m : Mate nodes a b) → new ≡ coupled nodes a b m
coupled_on old nodes new a b e f = subst (λ (l : List Node). (m : Mate l a b) → new ≡ coupled l a b m) e f
