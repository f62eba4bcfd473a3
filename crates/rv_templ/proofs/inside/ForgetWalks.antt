-- The walks on which notes go.
use Rattle.std.proofs.Common.{◌≡◌, ◌≢◌, ℕ, ◌+◌, ◌-◌, ◌≤◌, true, false, eqb, List, [], ◌∷◌, ◌++◌, length, take, drop, refl, sym, ◌∙◌, ap, inl, inr, arith, subst, append_assoc, length-append, take-append-drop, length-drop}
use Rattle.std.specs.Prelude.{◌⊎◌, Option, Some, None}
use Rattle.std.proofs.Math.Seq.{drop-append_seam, take-add}
use Rattle.std.proofs.lemmas.Bool.{or_parts, or_from}
use Rattle.std.proofs.lemmas.List.{append-nil, length-take-le, take_all, drop-drop}
use Rattle.rv_gate.specs.declared.gate.Shape.{Shape}
use Rattle.rv_links.specs.Order.{lists, head, next_in, NoTwice}
use Rattle.rv_links.specs.Nodes.{Node, ids_in, live, node_gate, noted}
use Rattle.rv_templ.specs.Pairs.{paired}
use Rattle.rv_templ.specs.declared.joining.Joined.{Joined}
use Rattle.rv_templ.specs.inside.Joins.{option_of}
use Rattle.rv_templ.specs.inside.Mates.{Joinless, IsPairSpot}
use Rattle.rv_templ.specs.inside.Notes.{Fewer, NoneNoted, Kept}
use Rattle.rv_templ.proofs.inside.CursorLaws.{all_passed, none_in}
use Rattle.rv_templ.proofs.inside.LinkedWindows.{head_at, node_more}
use Rattle.rv_templ.proofs.NodeLists.{apart}
use Rattle.rv_templ.proofs.inside.LinkedPairs.{place_is, second_here}
use Rattle.rv_templ.proofs.inside.NoteLaws.{kept_split, kept_append, fewer_kept, fewer_unknown, unknown_append}
use Rattle.rv_templ.proofs.inside.NotesAfter.{drop_within}
use Rattle.rv_templ.proofs.inside.PairWalk.{There, there, there_live, there_next, there_off, node_here, before_once}

-- ---- from a place on

pub record Near (nodes : List Node) (notes : List ℕ) (low a b : ℕ) (made : Joined) (at : Option ℕ) : Type 0 where
  pub seen : List Node
  pub left : List Node
  pub split : nodes ≡ (take low nodes ++ seen) ++ left
  pub at_is : at ≡ head (ids_in left)
  pub kept : (gates : List Shape) (first second : Node) → option_of made ≡ Some gates → first.id ≡ a → second.id ≡ b → Kept notes first second gates seen

pub near_start : (nodes : List Node) (notes : List ℕ) (low a b : ℕ) (made : Joined) (at : Option ℕ) → at ≡ head (ids_in (drop low nodes)) → Near nodes notes low a b made at
near_start nodes notes low a b made at e = record {
  seen = [];
  left = drop low nodes;
  split = sym (take-append-drop low nodes) ∙ ap (λ l. l ++ drop low nodes) (sym (append-nil (take low nodes)));
  at_is = e;
  kept = λ gates first second _ _ _. tt;
}

near_there : (nodes : List Node) (notes : List ℕ) (low a b x : ℕ) (made : Joined) (at : Option ℕ) → (w : Near nodes notes low a b made at) → at ≡ Some x → There nodes (take low nodes ++ w.seen) w.left x
near_there nodes notes low a b x made at w e = there nodes (take low nodes ++ w.seen) w.left at x w.split w.at_is e

pub near_live : (nodes : List Node) (notes : List ℕ) (low a b x : ℕ) (made : Joined) (at : Option ℕ) → Near nodes notes low a b made at → at ≡ Some x → live x nodes ≡ true
near_live nodes notes low a b x made at w e = there_live nodes (take low nodes ++ w.seen) w.left x (near_there nodes notes low a b x made at w e)

pub near_more : (nodes : List Node) (old new : List ℕ) (low a b x : ℕ) (made : Joined) (at next : Option ℕ) → NoTwice (ids_in nodes) → Near nodes old low a b made at → at ≡ Some x → Fewer old new
    → ((gates : List Shape) → option_of made ≡ Some gates → (noted x new ≡ 0) ⊎ ((noted x new ≢ a + 2) × (noted x new ≢ b + 2) × Joinless (node_gate x nodes) gates)) → next ≡ next_in x (ids_in nodes) → Near nodes new low a b made next
near_more nodes old new low a b x made at next d w e f here en =
    let front : List Node = take low nodes ++ w.seen in
    let t = near_there nodes old low a b x made at w e in
    let g = ap (λ (n : Node). n.gate) (node_here nodes front t.node t.rest x d t.split t.is (there_live nodes front w.left x t)).0 in
    let same : noted t.node.id new ≡ noted x new = ap (λ i. noted i new) t.is in
    record {
      seen = w.seen ++ (t.node ∷ []);
      left = t.rest;
      split = t.split ∙ sym (append_assoc front (t.node ∷ []) t.rest) ∙ ap (λ l. l ++ t.rest) (append_assoc (take low nodes) w.seen (t.node ∷ []));
      at_is = en ∙ there_next nodes front w.left x t d;
      kept = λ gates first second eo ea eb.
          kept_append new first second gates w.seen (t.node ∷ []) (fewer_kept old new first second gates w.seen f (w.kept gates first second eo ea eb)) (
            elim (here gates eo) [
              | inl z ↦ inl (same ∙ z)
              | inr u ↦ inr ((λ q stop. u.0 (sym same ∙ q ∙ ap (λ i. i + 2) ea)), (λ q stop. u.1 (sym same ∙ q ∙ ap (λ i. i + 2) eb)), subst (λ (h : Shape). Joinless h gates) g u.2)
            ],
            tt,
          );
    }

pub near_found : (nodes : List Node) (notes : List ℕ) (low a b x : ℕ) (made : Joined) (at : Option ℕ) (gates : List Shape) (first second : Node) (xs ys : List Node) → NoTwice (ids_in nodes) → low ≤ length nodes → Near nodes notes low a b made at
    → at ≡ Some x → x ≡ b → option_of made ≡ Some gates → first.id ≡ a → second.id ≡ b → nodes ≡ xs ++ (second ∷ ys) → Kept notes first second gates (drop low xs)
near_found nodes notes low a b x made at gates first second xs ys d le w e same eo ea eb s =
    let front : List Node = take low nodes in
    let t = near_there nodes notes low a b x made at w e in
    let is : front ++ w.seen ≡ xs = before_once nodes (front ++ w.seen) t.rest t.node second xs ys b d t.split (t.is ∙ same) s eb in
    let rest : w.seen ≡ drop low xs = sym (drop-append_seam front w.seen) ∙ ap (λ k. drop k (front ++ w.seen)) (length-take-le low nodes le) ∙ ap (drop low) is in
    subst (λ (l : List Node). Kept notes first second gates l) rest (w.kept gates first second eo ea eb)

pub near_end : (nodes : List Node) (notes : List ℕ) (low a b : ℕ) (made : Joined) (at : Option ℕ) (gates : List Shape) (first second : Node) (xs ys : List Node) → low ≤ length nodes → Near nodes notes low a b made at
    → at ≡ None → option_of made ≡ Some gates → first.id ≡ a → second.id ≡ b → low ≤ length xs → nodes ≡ xs ++ (second ∷ ys) → Kept notes first second gates (drop low xs)
near_end nodes notes low a b made at gates first second xs ys le w e eo ea eb within s =
    let front : List Node = take low nodes in
    let whole : nodes ≡ front ++ w.seen = w.split ∙ ap (λ l. (front ++ w.seen) ++ l) (none_in w.left (sym e ∙ w.at_is)) ∙ append-nil (front ++ w.seen) in
    let rest : w.seen ≡ drop low xs ++ (second ∷ ys) =
    sym (drop-append_seam front w.seen) ∙ ap (λ k. drop k (front ++ w.seen)) (length-take-le low nodes le) ∙ ap (drop low) (sym whole ∙ s) ∙ drop_within low xs (second ∷ ys) within in
    (kept_split notes first second gates (drop low xs) (second ∷ ys) (subst (λ (l : List Node). Kept notes first second gates l) rest (w.kept gates first second eo ea eb))).0

-- a note that is gone, or whose gate does not join, stays so where others go
pub loose_still : (old new : List ℕ) (g h : Shape) (x : ℕ) → Fewer old new → (noted x old ≡ 0) ⊎ (paired g h ≡ None) → (noted x new ≡ 0) ⊎ (paired g h ≡ None)
loose_still old new g h x f k = elim k [ inl z ↦ inl (elim (f x) [ inl gone ↦ gone | inr same ↦ same ∙ z ]) | inr p ↦ inr p ]

-- ---- so many from a place on

lists_first : (x : ℕ) (xs ys : List Node) → lists x (ids_in (xs ++ ys)) ≡ false → lists x (ids_in xs) ≡ false
lists_first x [] ys off = refl
lists_first x (n ∷ xs) ys off = let p = or_parts (eqb x n.id) (lists x (ids_in (xs ++ ys))) off in or_from (eqb x n.id) (lists x (ids_in xs)) p.0 (lists_first x xs ys p.1)

pub near_off : (nodes : List Node) (notes : List ℕ) (low a b x : ℕ) (made : Joined) (at : Option ℕ) → NoTwice (ids_in nodes) → Near nodes notes low a b made at → at ≡ Some x → lists x (ids_in (take low nodes)) ≡ false
near_off nodes notes low a b x made at d w e =
    lists_first x (take low nodes) w.seen (there_off nodes (take low nodes ++ w.seen) w.left x (near_there nodes notes low a b x made at w e) d)

-- the node at a place stands nowhere before
pub place_off : (nodes : List Node) (low i a : ℕ) → NoTwice (ids_in nodes) → Some a ≡ head (ids_in (drop (low + i) nodes)) → lists a (ids_in (take low nodes)) ≡ false
place_off nodes low i a d e =
    let p = head_at nodes (low + i) a e in
    let tail : List Node = drop (low + i + 1) nodes in
    let whole : nodes ≡ take (low + i) nodes ++ (p.0 ∷ tail) = sym (take-append-drop (low + i) nodes) ∙ ap (λ l. take (low + i) nodes ++ l) p.2 in
    let off = apart (take (low + i) nodes) p.0 tail (subst (λ (l : List Node). NoTwice (ids_in l)) whole d) in
    lists_first a (take low nodes) (take i (drop low nodes))
    (ap (λ l. lists a (ids_in l)) (sym (take-add low i nodes)) ∙ ap (λ x. lists x (ids_in (take (low + i) nodes))) (sym p.1) ∙ off)

-- the second node of a pair is none of those before the first one's place
pub second_off : (nodes : List Node) (low place a b : ℕ) (s : IsPairSpot nodes place a b) → NoTwice (ids_in nodes) → low ≤ place → lists b (ids_in (take low nodes)) ≡ false
second_off nodes low place a b s d le =
    let m = s.mate in
    let xs : List Node = m.before ++ (m.first ∷ m.between) in
    let far : ℕ = length xs - low in
    let at : length xs ≡ low + far = omega (arith, le, place_is nodes place a b s, length-append m.before (m.first ∷ m.between)) in
    place_off nodes low far b d (subst (λ (k : ℕ). Some b ≡ head (ids_in (drop k nodes))) at (second_here nodes a b m))

pub none_ended : (notes : List ℕ) (nodes : List Node) (low i count : ℕ) (at : Option ℕ) → at ≡ None → at ≡ head (ids_in (drop (low + i) nodes)) → i ≤ count → NoneNoted notes (take i (drop low nodes)) → NoneNoted notes (take count (drop low nodes))
none_ended notes nodes low i count at e h le none = grind (arith, all_passed, length-drop, take_all)

pub none_more : (old new : List ℕ) (nodes : List Node) (low i a : ℕ) → Some a ≡ head (ids_in (drop (low + i) nodes)) → Fewer old new → noted a new ≡ 0 → NoneNoted old (take i (drop low nodes)) → NoneNoted new (take (i + 1) (drop low nodes))
none_more old new nodes low i a e f z none = grind (arith, head_at, drop-drop, take-add, unknown_append, fewer_unknown)

pub place_more : (nodes : List Node) (next at : Option ℕ) (low i a : ℕ) → NoTwice (ids_in nodes) → next ≡ next_in a (ids_in nodes) → at ≡ Some a → at ≡ head (ids_in (drop (low + i) nodes)) → next ≡ head (ids_in (drop (low + (i + 1)) nodes))
place_more nodes next at low i a d e ea h = let s : low + i + 1 ≡ low + (i + 1) = omega arith in node_more a nodes next at (low + i) d e ea h ∙ ap (λ k. head (ids_in (drop k nodes))) s
