-- What look-ups tell of the gates that join with a flip.
use Rattle.std.proofs.Common.{◌≡◌, ◌≢◌, ℕ, suc, ◌<◌, ◌≤◌, ◌^◌, true, false, List, [], ◌∷◌, ◌++◌, refl, sym, subst, ◌∙◌, ap, inl, inr, arith, eq-eqb, ne_eqb, Bool}
use Rattle.std.specs.Prelude.{◌⊎◌, Option, Some, None, IfSome, bit_or, bit_xor}
use Rattle.rv_gate.specs.declared.circuit.TheConstants.{MOST_GATES}
use Rattle.rv_links.specs.Doubt.{IsBefore}
use Rattle.std.proofs.lemmas.Nat.{or_comm, xor_comm}
use Rattle.std.proofs.lemmas.Bool.{cases_Bool, cases_eq, cases_order, cond-true, cond-false, false≢true, or_left, false_from_ne_true}
use Rattle.rv_gate.specs.Word.{has}
use Rattle.rv_gate.specs.Gate.{IsGate, controls, wanted, is_flip, xor}
use Rattle.rv_templ.specs.Images.{target_of}
use Rattle.rv_gate.specs.declared.gate.Shape.{Shape}
use Rattle.rv_gate.specs.declared.gate.Shape.TheVariants.{Flip}
use Rattle.rv_gate.specs.declared.word.TheConstants.{MOST_LINES}
use Rattle.rv_gate.proofs.LineSets.{same_lines, has-or, has-xor, has-line, has-none, bit_xor-back}
use Rattle.rv_links.specs.Order.{head, next_in, Rising, NoTwice}
use Rattle.rv_links.specs.Nodes.{Node, ids_in, live, node_gate, gates_in, noted}
use Rattle.rv_links.specs.declared.sought.Sought.{Sought}
use Rattle.rv_links.specs.declared.sought.Sought.TheVariants.{Unknown, Nowhere, At}
use Rattle.rv_links.specs.Seeking.{Tells, Reaches, Found}
use Rattle.rv_links.proofs.inside.WindowLemmas.{live_first as live_front}
use Rattle.rv_templ.specs.Gates.{AreGates}
use Rattle.rv_templ.specs.Pairs.{apart_on, paired}
use Rattle.rv_templ.specs.inside.Lookups.{Variant}
use Rattle.rv_templ.specs.inside.Mates.{IsStop, numbers_left}
use Rattle.rv_templ.specs.inside.Notes.{Apart}
use Rattle.rv_templ.proofs.JoinLaws.{differ_on, line_used, paired_as}
use Rattle.rv_templ.proofs.NodeLists.{sooner_than, head_least, next_least, next_later, Each, each_of}

-- ---- answers

pub tells_reaches : (nodes : List Node) (gate : Shape) (from : ℕ) (s : Sought) → Tells nodes gate from s → (x : ℕ) → live x nodes ≡ true → from ≤ x → node_gate x nodes ≡ gate → Reaches s x
tells_reaches nodes gate from Unknown t x on le e = tt
tells_reaches nodes gate from Nowhere t x on le e = t x on le e
tells_reaches nodes gate from (At b) t x on le e = t.least x on le e

pub tells_found : (nodes : List Node) (gate : Shape) (from : ℕ) (s : Sought) → Tells nodes gate from s → Found nodes from s
tells_found nodes gate from Unknown t = tt
tells_found nodes gate from Nowhere t = tt
tells_found nodes gate from (At b) t = (t.on, t.late)

-- the gate of a live node is one
pub live_gate : (n : ℕ) (nodes : List Node) (x : ℕ) → NoTwice (ids_in nodes) → AreGates n (gates_in nodes) → live x nodes ≡ true → IsGate (node_gate x nodes)
unfolding node_gate
live_gate n [] x d g on = absurd (false≢true on)
live_gate n (m ∷ rest) x d g on = let i0 = live_gate n rest x d.1 g.2 in grind (arith, i0, cond-true, cond-false)

-- ---- flips that differ on one line

half : (x y line : ℕ) → bit_or x y ≡ 2 ^ line → (x ≡ 0) ⊎ (x ≡ 2 ^ line)
half x y line e =
    elim (cases_Bool (has x line)) [
      | inl t ↦
          inr (same_lines x (2 ^ line) (λ k. elim (cases_eq k line) [
            | inl q ↦ ap (has x) q ∙ t ∙ sym (ap (has (2 ^ line)) q ∙ has-line line line ∙ eq-eqb line line refl)
            | inr ne ↦ off k ne ∙ sym (has-line line k ∙ ne_eqb k line ne)
          ]))
      | inr f ↦ inl (same_lines x 0 (λ k. elim (cases_eq k line) [
        | inl q ↦ ap (has x) q ∙ f ∙ sym (has-none k)
        | inr ne ↦ off k ne ∙ sym (has-none k)
      ]))
    ]
  where
    off : (k : ℕ) → k ≢ line → has x k ≡ false
    off k ne = false_from_ne_true (has x k) (λ t. false≢true (sym (has-line line k ∙ ne_eqb k line ne) ∙ ap (λ s. has s k) (sym e) ∙ has-or x y k ∙ or_left (has x k) (has y k) t))

back : (a b e : ℕ) → bit_xor a b ≡ e → b ≡ bit_xor a e
back a b e q = sym (bit_xor-back a b) ∙ ap (bit_xor a) q

stays : (a b : ℕ) → bit_xor a b ≡ 0 → b ≡ a
stays a b q = back a b 0 q ∙ same_lines (bit_xor a 0) a (λ k. has-xor a 0 k ∙ ap (xor (has a k)) (has-none k) ∙ plain (has a k))
  where
    plain : (b : Bool) → xor b false ≡ b
    plain true = refl
    plain false = refl

flip_is : (c w c2 w2 t : ℕ) → c ≡ c2 → w ≡ w2 → Flip c w t ≡ Flip c2 w2 t
flip_is c w c2 w2 t e f = ap (λ x. Flip x w t) e ∙ ap (λ x. Flip c2 x t) f

variant : (c w c2 w2 t line : ℕ) → apart_on c w c2 w2 ≡ 2 ^ line → (c ≡ c2 → w ≡ w2 → ⊥) → Variant c w t line (Flip c2 w2 t)
variant c w c2 w2 t line e other = grind (arith, half, or_comm, stays, flip_is, back)

-- a gate that joins with the flip is the same, or another on one line that one of both has as a control
pub record Joining (g h : Shape) : Type 0 where
  pub line : ℕ
  pub below : line < MOST_LINES
  pub used : (has (controls g) line ≡ true) ⊎ ((is_flip h ≡ true) × (has (controls h) line ≡ true))
  pub variant : Variant (controls g) (wanted g) (target_of g) line h

joins_on : (c w c2 w2 t line : ℕ) → IsGate (Flip c w t) → IsGate (Flip c2 w2 t) → line < MOST_LINES → apart_on c w c2 w2 ≡ 2 ^ line → Joining (Flip c w t) (Flip c2 w2 t)
joins_on c w c2 w2 t line v v2 lt e = record {
  line = line;
  below = lt;
  used = elim (line_used c w c2 w2 line e v.2 v2.2) [ inl u ↦ inl u | inr u ↦ inr (refl, u) ];
  variant = variant c w c2 w2 t line e (λ p q. differ_on c w c2 w2 line e (ap (λ s. has s line) p) (ap (λ s. has s line) q));
}

pub joining : (g h : Shape) (m : List Shape) → is_flip g ≡ true → IsGate g → IsGate h → paired g h ≡ Some m → (h ≡ g) ⊎ Joining g h
joining g h m is v v2 e =
    elim (paired_as g h m e) [
      | inl u ↦ inl (u.flips is)
      | inr k ↦ inr (rw (k.first, k.second) (joins_on k.care k.want k.care2 k.want2 k.target k.line (rw k.first at v) (rw k.second at v2) k.below k.apart))
    ]

pub joining_back : (g h : Shape) (m : List Shape) → is_flip g ≡ true → IsGate g → IsGate h → paired h g ≡ Some m → (h ≡ g) ⊎ Joining g h
joining_back g h m is v v2 e =
    elim (paired_as h g m e) [
      | inl u ↦ inl (sym (u.flips (u.kind ∙ is)))
      | inr k ↦
          inr (rw (k.first, k.second) (joins_on k.care2 k.want2 k.care k.want k.target k.line (rw k.second at v) (rw k.first at v2) k.below
          (ap (λ x. bit_or x (bit_xor k.want2 k.want)) (xor_comm k.care2 k.care) ∙ ap (bit_or (bit_xor k.care k.care2)) (xor_comm k.want2 k.want) ∙ k.apart)))
    ]

-- ---- a walk along the nodes

pub stop_as : (nodes : List Node) (g : Shape) (a : ℕ) (stop o : Option ℕ) → stop ≡ o → IsStop nodes g a stop → IsStop nodes g a o
stop_as nodes g a stop o e s = subst (λ (p : Option ℕ). IsStop nodes g a p) e s

-- the walk is at a node from a number on, or at its end, and what is asked holds of those before
pub record Walked (nodes : List Node) (from : ℕ) (P : ℕ → Type 0) (at : Option ℕ) : Type 0 where
  pub on : IfSome at (λ b. (live b nodes ≡ true) × (from ≤ b))
  pub passed : (x : ℕ) → live x nodes ≡ true → from ≤ x → IsBefore x at → P x

-- from the first node on
pub walk_first : (nodes : List Node) (P : ℕ → Type 0) (at : Option ℕ) → Rising (ids_in nodes) → at ≡ head (ids_in nodes) → Walked nodes 0 P at
walk_first nodes P at r e = record { on = also at (live_front nodes at e); passed = λ x l _ b. absurd (head_least nodes x r l (subst (λ (o : Option ℕ). IsBefore x o) e b)) }
  where
    also : (o : Option ℕ) → IfSome o (λ b. live b nodes ≡ true) → IfSome o (λ b. (live b nodes ≡ true) × (0 ≤ b))
    also None k = tt
    also (Some b) k = (k, omega arith)

-- from the node after one on
pub walk_after : (nodes : List Node) (a : ℕ) (P : ℕ → Type 0) (next : Option ℕ) → Rising (ids_in nodes) → NoTwice (ids_in nodes) → live a nodes ≡ true → next ≡ next_in a (ids_in nodes) → Walked nodes (suc a) P next
walk_after nodes a P next r d on e = record { on = next_later nodes a next r d on e; passed = λ x l lt b. absurd (next_least nodes a next r d on e x l lt b) }

-- on to a later node, where what is asked holds of all between
pub walk_skip : (nodes : List Node) (from b : ℕ) (P Q : ℕ → Type 0) (next : Option ℕ) → Walked nodes from P (Some b) → ((x : ℕ) → P x → Q x) → Q b → IfSome next (λ c. (live c nodes ≡ true) × (b < c))
    → ((x : ℕ) → live x nodes ≡ true → b < x → IsBefore x next → Q x) → Walked nodes from Q next
walk_skip nodes from b P Q next w keeps here later gap = record {
  on = still next later w.on.1;
  passed = λ x l late before.
      elim (cases_order x b) [
        | inl e ↦ subst Q (sym e) here
        | inr o ↦ (elim o [ inl lt ↦ keeps x (w.passed x l late lt) | inr gt ↦ gap x l gt before ])
      ];
}
  where
    still : (o : Option ℕ) → IfSome o (λ c. (live c nodes ≡ true) × (b < c)) → from ≤ b → IfSome o (λ c. (live c nodes ≡ true) × (from ≤ c))
    still None k le = tt
    still (Some c) k le = (k.0, omega (arith, k.1, le))

-- on to the next node
pub walk_on : (nodes : List Node) (from b : ℕ) (P Q : ℕ → Type 0) (next : Option ℕ) → Rising (ids_in nodes) → NoTwice (ids_in nodes) → Walked nodes from P (Some b) → ((x : ℕ) → P x → Q x) → Q b → next ≡ next_in b (ids_in nodes) → Walked nodes from Q next
walk_on nodes from b P Q next r d w keeps here e =
    walk_skip nodes from b P Q next w keeps here (next_later nodes b next r d w.on.0 e) (λ y l q p. absurd (next_least nodes b next r d w.on.0 e y l q p))

pub fewer_left : (nodes : List Node) (b : ℕ) (at next : Option ℕ) → at ≡ Some b → b < MOST_GATES → IfSome next (λ c. (live c nodes ≡ true) × (b < c)) → numbers_left next < numbers_left at
fewer_left nodes b at None e lt k = let q = ap numbers_left e in omega (arith, q, lt)
fewer_left nodes b at (Some c) e lt k = let q = ap numbers_left e in omega (arith, q, lt, k.1)

-- ---- notes that go

some_or : (o : Option (List Shape)) → (o ≡ None) ⊎ ((m : List Shape) × (o ≡ Some m))
some_or None = inl refl
some_or (Some m) = inr (m, refl)

-- a note is gone, or the gate does not join
pub loose_or : (c w t : ℕ) (h : Shape) (z : ℕ) → IsGate (Flip c w t) → IsGate h → (h ≡ Flip c w t → z ≡ 0) → (Joining (Flip c w t) h → z ≡ 0) → (z ≡ 0) ⊎ (paired h (Flip c w t) ≡ None)
loose_or c w t h z v v2 same other = grind (arith, some_or, joining_back)

apart_each : (notes : List ℕ) (g : Shape) (l : List Node) → Each (λ x h. (noted x notes ≡ 0) ⊎ (paired h g ≡ None)) l → Apart notes (g ∷ []) l
unfolding Each
apart_each notes g [] k = tt
apart_each notes g (n ∷ rest) k = (elim k.0 [ inl z ↦ inl z | inr p ↦ inr (p, tt) ], apart_each notes g rest k.1)

pub apart_before : (nodes : List Node) (notes : List ℕ) (g : Shape) (n : Node) (b : ℕ) (xs ys : List Node) → Rising (ids_in nodes) → NoTwice (ids_in nodes) → nodes ≡ xs ++ (n ∷ ys)
    → n.id ≡ b → ((x : ℕ) → live x nodes ≡ true → x < b → (noted x notes ≡ 0) ⊎ (paired (node_gate x nodes) g ≡ None)) → Apart notes (g ∷ []) xs
apart_before nodes notes g n b xs ys r d e is all =
    apart_each notes g xs
    (each_of (λ x h. (noted x notes ≡ 0) ⊎ (paired h g ≡ None)) nodes [] xs (n ∷ ys) e d
    (λ x l o. all x o (let lt = sooner_than xs n ys x (subst (λ (k : List Node). Rising (ids_in k)) e r) l in omega (arith, lt, is))))
