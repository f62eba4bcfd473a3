-- The walk along all nodes for the first pair.
use Rattle.std.proofs.Common.{◌≡◌, ◌≢◌, ℕ, ◌+◌, ◌≤◌, true, false, List, [], ◌∷◌, ◌++◌, length, refl, sym, ◌∙◌, ap, arith, subst, append_assoc, length-append, take}
use Rattle.std.specs.Prelude.{Option, Some, None}
use Rattle.std.proofs.Math.Seq.{take-append_seam}
use Rattle.std.proofs.lemmas.Option.{none-some, same_Some}
use Rattle.std.proofs.lemmas.List.{append_cancel_right, append-nil, length-map}
use Rattle.rv_gate.specs.declared.gate.Shape.{Shape}
use Rattle.rv_links.specs.Order.{lists, head, next_in, NoTwice}
use Rattle.rv_links.specs.Nodes.{Node, ids_in, live, node_gate, from_node, gates_in, noted}
use Rattle.rv_links.specs.inside.Chains.{nodes_from}
use Rattle.rv_links.proofs.inside.WindowLemmas.{from_step}
use Rattle.rv_templ.specs.Pairs.{after_gates, pair_step}
use Rattle.rv_templ.specs.inside.Mates.{Mate, IsPairSpot}
use Rattle.rv_templ.specs.inside.Notes.{Quiet, Noted, AllNoted, Others, node_of}
use Rattle.rv_templ.proofs.inside.NoteLaws.{known_skip, known_others, known_append, noted_at, noted_more}
use Rattle.rv_templ.proofs.PairSteps.{step_here, step_nil}
use Rattle.rv_templ.proofs.NodeLists.{apart, listed_at, next_at, from_at, stands}
use Rattle.rv_templ.proofs.inside.CursorLaws.{none_in}

-- ---- a node, and those after it

pub from_split : (nodes before : List Node) (n : Node) (rest : List Node) (a : ℕ) → NoTwice (ids_in nodes) → nodes ≡ before ++ (n ∷ rest) → n.id ≡ a → from_node a nodes ≡ n ∷ rest
from_split nodes before n rest a d s i = grind (arith, apart, from_at)

heads : (x y : Node) (xs ys : List Node) → ◌≡◌ {A = List Node} (x ∷ xs) (y ∷ ys) → (x ≡ y) × (xs ≡ ys)
heads x y xs ys e = (cc, cc)

-- what stands before a node is one list
pub before_once : (nodes xs ys : List Node) (n m : Node) (us vs : List Node) (a : ℕ) → NoTwice (ids_in nodes) → nodes ≡ xs ++ (n ∷ ys) → n.id ≡ a → nodes ≡ us ++ (m ∷ vs) → m.id ≡ a → xs ≡ us
before_once nodes xs ys n m us vs a d s i t j =
    let one : n ∷ ys ≡ m ∷ vs = sym (from_split nodes xs n ys a d s i) ∙ from_split nodes us m vs a d t j in
    append_cancel_right xs us (n ∷ ys) (sym s ∙ t ∙ ap (λ l. us ++ l) (sym one))

-- the node itself, and those after it
pub node_here : (nodes before : List Node) (n : Node) (rest : List Node) (a : ℕ) → NoTwice (ids_in nodes) → nodes ≡ before ++ (n ∷ rest) → n.id ≡ a → live a nodes ≡ true
    → (node_of a (node_gate a nodes) ≡ n) × (nodes_from (next_in a (ids_in nodes)) nodes ≡ rest)
node_here nodes before n rest a d s i on =
    heads _ n _ rest (sym (from_step a nodes d on) ∙ from_split nodes before n rest a d s i)

-- ---- along the cascade

pub record Along (nodes : List Node) (notes : List ℕ) (place : ℕ) (at : Option ℕ) : Type 0 where
  pub before : List Node
  pub count : length before ≡ place
  pub after : List Node
  pub split : nodes ≡ before ++ after
  pub at_is : at ≡ head (ids_in after)
  pub known : AllNoted notes before

-- the node at which the walk is
pub record There (nodes before after : List Node) (a : ℕ) : Type 0 where
  pub node : Node
  pub rest : List Node
  pub here : after ≡ node ∷ rest
  pub is : node.id ≡ a
  pub split : nodes ≡ before ++ (node ∷ rest)

head_is : (after : List Node) (a : ℕ) → Some a ≡ head (ids_in after) → (n : Node) × (rest : List Node) × (after ≡ n ∷ rest) × (n.id ≡ a)
head_is [] a e = absurd (none-some a (sym e))
head_is (n ∷ rest) a e = (n, rest, refl, sym (same_Some a n.id e))

pub there : (nodes before after : List Node) (at : Option ℕ) (a : ℕ) → nodes ≡ before ++ after → at ≡ head (ids_in after) → at ≡ Some a → There nodes before after a
there nodes before after at a s h e = grind (arith, head_is)

pub there_live : (nodes before after : List Node) (a : ℕ) → There nodes before after a → live a nodes ≡ true
there_live nodes before after a t = ap (live a) t.split ∙ ap (λ x. live x (before ++ (t.node ∷ t.rest))) (sym t.is) ∙ listed_at before t.node t.rest

-- the next one
pub there_next : (nodes before after : List Node) (a : ℕ) (t : There nodes before after a) → NoTwice (ids_in nodes) → next_in a (ids_in nodes) ≡ head (ids_in t.rest)
there_next nodes before after a t d = grind (arith, apart, next_at)

-- it stands nowhere before
pub there_off : (nodes before after : List Node) (a : ℕ) → There nodes before after a → NoTwice (ids_in nodes) → lists a (ids_in before) ≡ false
there_off nodes before after a t d = ap (λ x. lists x (ids_in before)) (sym t.is) ∙ apart before t.node t.rest (subst (λ (l : List Node). NoTwice (ids_in l)) t.split d)

pub along_live : (nodes : List Node) (notes : List ℕ) (place : ℕ) (at : Option ℕ) (a : ℕ) → Along nodes notes place at → at ≡ Some a → live a nodes ≡ true
along_live nodes notes place at a w e = there_live nodes w.before w.after a (there nodes w.before w.after at a w.split w.at_is e)

pub along_more : (nodes : List Node) (old new : List ℕ) (place : ℕ) (at next : Option ℕ) (a : ℕ) → NoTwice (ids_in nodes) → Along nodes old place at → at ≡ Some a → noted a new ≢ 0 → Others a old new → next ≡ next_in a (ids_in nodes)
    → Along nodes new (place + 1) next
along_more nodes old new place at next a d w e some o en =
    let t = there nodes w.before w.after at a w.split w.at_is e in
    record {
      before = w.before ++ (t.node ∷ []);
      count = let n = w.count in omega (arith, n, length-append w.before (t.node ∷ []));
      after = t.rest;
      split = t.split ∙ sym (append_assoc w.before (t.node ∷ []) t.rest);
      at_is = en ∙ there_next nodes w.before w.after a t d;
      known = known_append new w.before (t.node ∷ []) (known_others old new a w.before (there_off nodes w.before w.after a t d) o w.known) ((λ z. some (ap (λ x. noted x new) (sym t.is) ∙ z)), tt);
    }

-- the nodes before it
pub along_known : (nodes : List Node) (old new : List ℕ) (place : ℕ) (at : Option ℕ) (a : ℕ) → NoTwice (ids_in nodes) → Along nodes old place at → at ≡ Some a → Others a old new → AllNoted new (take place nodes)
along_known nodes old new place at a d w e o =
    let t = there nodes w.before w.after at a w.split w.at_is e in
    let front : take place nodes ≡ w.before = ap (λ k. take k nodes) (sym w.count) ∙ ap (take (length w.before)) w.split ∙ take-append_seam w.before w.after in
    subst (λ (l : List Node). AllNoted new l) (sym front) (known_others old new a w.before (there_off nodes w.before w.after a t d) o w.known)

pub along_all : (nodes : List Node) (notes : List ℕ) (place : ℕ) (at : Option ℕ) → Along nodes notes place at → at ≡ None → AllNoted notes nodes
along_all nodes notes place at w e = grind (arith, none_in, append-nil)

-- where all have notes there is no pair
pub no_pair : (nodes : List Node) (notes : List ℕ) (far : ℕ) → Noted notes nodes far → AllNoted notes nodes → pair_step (gates_in nodes) ≡ None
no_pair nodes notes far right known =
    let whole : nodes ++ [] ≡ nodes = append-nil nodes in
    ap (λ l. pair_step (gates_in l)) (sym whole)
    ∙ known_skip notes nodes [] far (subst (λ (l : List Node). Noted notes l far) (sym whole) right) known
    ∙ ap (after_gates (gates_in nodes)) step_nil

pub along_hit : (nodes : List Node) (old : List ℕ) (place : ℕ) (at : Option ℕ) (a b far : ℕ) → NoTwice (ids_in nodes) → Along nodes old place at → Noted old nodes far → at ≡ Some a → Mate nodes a b → IsPairSpot nodes place a b
along_hit nodes old place at a b far d w right e m =
    let t = there nodes w.before w.after at a w.split w.at_is e in
    let tail : List Node = m.between ++ (m.second ∷ m.after) in
    let out : List Shape = gates_in m.between ++ (m.gates ++ gates_in m.after) in
    let pre : w.before ≡ m.before = before_once nodes w.before t.rest t.node m.first m.before tail a d t.split t.is m.split m.is_first in
    let known : AllNoted old m.before = subst (λ (l : List Node). AllNoted old l) pre w.known in
    record {
      mate = m;
      count = length-map m.before (λ (n : Node). n.gate) ∙ ap length (sym pre) ∙ w.count;
      step = ap (λ l. pair_step (gates_in l)) m.split
          ∙ known_skip old m.before (m.first ∷ tail) far (subst (λ (l : List Node). Noted old l far) m.split right) known
          ∙ ap (after_gates (gates_in m.before)) (step_here m.first.gate (gates_in tail) out m.step);
    }

-- a node's note is made
pub made_right : (nodes : List Node) (old new : List ℕ) (a note far more : ℕ) → NoTwice (ids_in nodes) → live a nodes ≡ true → noted a new ≡ note → Others a old new → Quiet note (node_gate a nodes) (nodes_from (next_in a (ids_in nodes)) nodes) more
    → Noted old nodes far → far ≤ more → Noted new nodes more
made_right nodes old new a note far more d on is o q right le =
    let s = stands nodes a on in
    let h = node_here nodes s.before s.node s.after a d s.split s.is on in
    let gate : node_gate a nodes ≡ s.node.gate = ap (λ (n : Node). n.gate) h.0 in
    let note_is : note ≡ noted s.node.id new = sym is ∙ ap (λ x. noted x new) (sym s.is) in
    let q2 : Quiet (noted s.node.id new) s.node.gate s.after more =
    subst (λ (k : ℕ). Quiet k s.node.gate s.after more) note_is (subst (λ (g : Shape). Quiet note g s.after more) gate (subst (λ (l : List Node). Quiet note (node_gate a nodes) l more) h.1 q)) in
    subst (λ (l : List Node). Noted new l more) (sym s.split)
    (noted_at old new s.before s.node s.after more (subst (λ (l : List Node). NoTwice (ids_in l)) s.split d) (subst (λ (x : ℕ). Others x old new) (sym s.is) o) q2
    (noted_more old (s.before ++ (s.node ∷ s.after)) far more le (subst (λ (l : List Node). Noted old l far) s.split right)))
