-- Notes of gates without a partner, and when they stay right.
use Rattle.std.proofs.Common.{◌≡◌, ◌≢◌, ℕ, zero, suc, ◌<◌, ◌≤◌, true, false, eqb, List, map, [], ◌∷◌, ◌++◌, length, take, refl, sym, ◌∙◌, ap, inl, inr, arith, subst, append_assoc, length-append}
use Rattle.std.specs.Prelude.{None}
use Rattle.std.proofs.lemmas.Bool.{cases_eq, false≢true, or_parts}
use Rattle.rv_gate.specs.declared.gate.Shape.{Shape}
use Rattle.rv_links.specs.Order.{lists, NoTwice}
use Rattle.rv_links.specs.Nodes.{Node, ids_in, gates_in, noted, with_gates}
use Rattle.rv_templ.specs.Pairs.{paired, partner, after_gates, pair_step}
use Rattle.rv_templ.specs.inside.Mates.{Joinless, passes}
use Rattle.rv_templ.specs.inside.Notes.{Quiet, Noted, AllNoted, NoneNoted, Fewer, Others, Unnamed, Apart, Kept, node_of}
use Rattle.rv_templ.proofs.Options.{after_none}
use Rattle.rv_gate.proofs.FirstAnswer.{or_none}
use Rattle.rv_templ.proofs.NodeLists.{listed_at}
use Rattle.rv_templ.proofs.PairSteps.{partner_none, partner_pass, partner_nil, step_pass, after_twice, after_nothing}
use Rattle.rv_gate.proofs.Options.{unmapped}

pub not_joined : (g h : Shape) (rest : List Shape) → partner g (h ∷ rest) ≡ None → paired g h ≡ None
unfolding partner
not_joined g h rest e = unmapped (λ m. m ++ rest) (paired g h) (after_none [] _ (or_none _ _ e).0)

-- ---- one note

pub quiet_more : (note : ℕ) (g : Shape) (l : List Node) (far more : ℕ) → far ≤ more → Quiet note g l far → Quiet note g l more
quiet_more note g [] far more le q = q
quiet_more note g (n ∷ rest) zero more le q = absurd q
quiet_more note g (n ∷ rest) (suc far) zero le q = absurd (omega arith)
quiet_more note g (n ∷ rest) (suc far) (suc more) le q = (q.0, elim q.1 [ inl s ↦ inl s | inr r ↦ inr (quiet_more note g rest far more (omega arith) r) ])

-- the gate has no partner
pub quiet_none : (note : ℕ) (g : Shape) (l : List Node) (far : ℕ) → Quiet note g l far → partner g (gates_in l) ≡ None
quiet_none note g [] far q = partner_nil g
quiet_none note g (n ∷ rest) zero q = absurd q
quiet_none note g (n ∷ rest) (suc far) q = let i0 = quiet_none note g rest far in grind (arith, i0, partner_pass, partner_none)

-- a node goes
pub quiet_erased : (note : ℕ) (g : Shape) (xs : List Node) (a : Node) (ys : List Node) (far : ℕ) → Unnamed note g a → Quiet note g (xs ++ (a ∷ ys)) far → Quiet note g (xs ++ ys) far
quiet_erased note g [] a ys zero u q = absurd q
quiet_erased note g [] a ys (suc far) u q = elim q.1 [ inl s ↦ absurd (u s.0 s.1) | inr r ↦ quiet_more note g ys far (suc far) (omega arith) r ]
quiet_erased note g (x ∷ xs) a ys zero u q = absurd q
quiet_erased note g (x ∷ xs) a ys (suc far) u q = (q.0, elim q.1 [ inl s ↦ inl s | inr r ↦ inr (quiet_erased note g xs a ys far u r) ])

-- a node is put in the place of another
pub quiet_put : (note : ℕ) (g : Shape) (xs : List Node) (b new : Node) (ys : List Node) (far : ℕ) → Unnamed note g b → paired g new.gate ≡ None → Quiet note g (xs ++ (b ∷ ys)) far → Quiet note g (xs ++ (new ∷ ys)) far
quiet_put note g [] b new ys zero u p q = absurd q
quiet_put note g [] b new ys (suc far) u p q = (p, elim q.1 [ inl s ↦ absurd (u s.0 s.1) | inr r ↦ inr r ])
quiet_put note g (x ∷ xs) b new ys zero u p q = absurd q
quiet_put note g (x ∷ xs) b new ys (suc far) u p q = (q.0, elim q.1 [ inl s ↦ inl s | inr r ↦ inr (quiet_put note g xs b new ys far u p r) ])

-- what comes after nodes on which it depends may be anything
pub quiet_front : (note : ℕ) (g : Shape) (xs : List Node) (y : Node) (ys zs : List Node) (far : ℕ) → far ≤ length xs → Quiet note g (xs ++ (y ∷ ys)) far → Quiet note g (xs ++ zs) far
quiet_front note g [] y ys zs zero le q = absurd q
quiet_front note g [] y ys zs (suc far) le q = absurd (omega arith)
quiet_front note g (x ∷ xs) y ys zs zero le q = absurd q
quiet_front note g (x ∷ xs) y ys zs (suc far) le q = (q.0, elim q.1 [ inl s ↦ inl s | inr r ↦ inr (quiet_front note g xs y ys zs far (omega arith) r) ])

-- ---- the note that a search makes

-- the gate commutes with all
pub free_quiet : (g : Shape) (l : List Node) → partner g (gates_in l) ≡ None → passes g (gates_in l) ≡ true → Quiet 1 g l (length l)
free_quiet g [] e free = refl
free_quiet g (n ∷ rest) e free = let i0 = free_quiet g rest in grind (arith, i0, not_joined, after_none, partner_pass)

-- ---- all notes

pub noted_more : (notes : List ℕ) (l : List Node) (far more : ℕ) → far ≤ more → Noted notes l far → Noted notes l more
noted_more notes [] far more le k = tt
noted_more notes (n ∷ rest) far more le k = (elim k.0 [ inl z ↦ inl z | inr q ↦ inr (quiet_more (noted n.id notes) n.gate rest far more le q) ], noted_more notes rest far more le k.1)

pub noted_last : (notes : List ℕ) (xs ys : List Node) (far : ℕ) → Noted notes (xs ++ ys) far → Noted notes ys far
noted_last notes [] ys far k = k
noted_last notes (x ∷ xs) ys far k = noted_last notes xs ys far k.1

pub unknown_noted : (notes : List ℕ) (xs ys : List Node) (far : ℕ) → NoneNoted notes xs → Noted notes ys far → Noted notes (xs ++ ys) far
unknown_noted notes [] ys far u k = k
unknown_noted notes (x ∷ xs) ys far u k = (inl u.0, unknown_noted notes xs ys far u.1 k)

-- those that stand so far before a change that their notes do not depend on it
pub noted_far : (notes : List ℕ) (ps ns : List Node) (y : Node) (ys zs : List Node) (far : ℕ) → far ≤ length ns → Noted notes (ps ++ (ns ++ (y ∷ ys))) far → Noted notes (ns ++ zs) far → Noted notes (ps ++ (ns ++ zs)) far
noted_far notes [] ns y ys zs far le k now = now
noted_far notes (p ∷ ps) ns y ys zs far le k now = (
  elim k.0 [
    | inl z ↦ inl z
    | inr q ↦
        inr (subst (λ (l : List Node). Quiet (noted p.id notes) p.gate l far) (append_assoc ps ns zs)
        (quiet_front (noted p.id notes) p.gate (ps ++ ns) y ys zs far (omega (arith, le, length-append ps ns))
        (subst (λ (l : List Node). Quiet (noted p.id notes) p.gate l far) (sym (append_assoc ps ns (y ∷ ys))) q)))
  ],
  noted_far notes ps ns y ys zs far le k.1 now,
)

-- the first pair is after nodes that have notes
pub known_skip : (notes : List ℕ) (xs ys : List Node) (far : ℕ) → Noted notes (xs ++ ys) far → AllNoted notes xs → pair_step (gates_in (xs ++ ys)) ≡ after_gates (gates_in xs) (pair_step (gates_in ys))
known_skip notes [] ys far k some = sym (after_nothing (pair_step (gates_in ys)))
known_skip notes (x ∷ xs) ys far k some = let i0 = known_skip notes xs ys far k.1 some.1 in grind (arith, i0, quiet_none, step_pass, after_twice)

-- ---- a pair is made

pub kept_split : (notes : List ℕ) (first second : Node) (gates : List Shape) (xs ys : List Node) → Kept notes first second gates (xs ++ ys) → Kept notes first second gates xs × Kept notes first second gates ys
kept_split notes first second gates [] ys k = (tt, k)
kept_split notes first second gates (x ∷ xs) ys k = let r = kept_split notes first second gates xs ys k.1 in ((k.0, r.0), r.1)

pub kept_append : (notes : List ℕ) (first second : Node) (gates : List Shape) (xs ys : List Node) → Kept notes first second gates xs → Kept notes first second gates ys → Kept notes first second gates (xs ++ ys)
kept_append notes first second gates [] ys k r = r
kept_append notes first second gates (x ∷ xs) ys k r = (k.0, kept_append notes first second gates xs ys k.1 r)

-- what comes in the place of the second one
changed : (note : ℕ) (g : Shape) (xs : List Node) (a : ℕ) (second : Node) (gates : List Shape) (after : List Node) (far : ℕ) → length gates < 2 → Unnamed note g second → Joinless g gates → Quiet note g (xs ++ (second ∷ after)) far
    → Quiet note g (xs ++ (map (node_of a) gates ++ after)) far
changed note g xs a second [] after far few u j q = quiet_erased note g xs second after far u q
changed note g xs a second (m ∷ []) after far few u j q = quiet_put note g xs second (node_of a m) after far u j.0 q
changed note g xs a second (m ∷ k ∷ more) after far few u j q = absurd (omega arith)

kept_between : (notes : List ℕ) (a : ℕ) (first second : Node) (gates : List Shape) (xs after : List Node) (far : ℕ) → length gates < 2 → noted a notes ≡ 0 → Kept notes first second gates xs → Noted notes (xs ++ (second ∷ after)) far
    → Noted notes (xs ++ (map (node_of a) gates ++ after)) far
kept_between notes a first second [] [] after far few z k n = n.1
kept_between notes a first second (m ∷ []) [] after far few z k n = (inl z, n.1)
kept_between notes a first second (m ∷ p ∷ more) [] after far few z k n = absurd (omega arith)
kept_between notes a first second gates (x ∷ xs) after far few z k n = (
  elim n.0 [
    | inl e ↦ inl e
    | inr q ↦ (elim k.0 [ inl e ↦ inl e | inr u ↦ inr (changed (noted x.id notes) x.gate xs a second gates after far few u.1 u.2 q) ])
  ],
  kept_between notes a first second gates xs after far few z k.1 n.1,
)

pub kept_before : (notes : List ℕ) (a : ℕ) (first second : Node) (gates : List Shape) (xs between after : List Node) (far : ℕ) → length gates < 2 → noted a notes ≡ 0 → Kept notes first second gates xs → Kept notes first second gates between
    → Noted notes (xs ++ (first ∷ (between ++ (second ∷ after)))) far → Noted notes (xs ++ (between ++ (map (node_of a) gates ++ after))) far
kept_before notes a first second gates [] between after far few z k b n = kept_between notes a first second gates between after far few z b n.1
kept_before notes a first second gates (x ∷ xs) between after far few z k b n = (
  elim n.0 [
    | inl e ↦ inl e
    | inr q ↦
        (elim k.0 [
          | inl e ↦ inl e
          | inr u ↦
              let made : List Node = map (node_of a) gates ++ after in
              let one = quiet_erased (noted x.id notes) x.gate xs first (between ++ (second ∷ after)) far u.0 q in
              let two = changed (noted x.id notes) x.gate (xs ++ between) a second gates after far few u.1 u.2 (subst (λ (l : List Node). Quiet (noted x.id notes) x.gate l far) (sym (append_assoc xs between (second ∷ after))) one) in
              inr (subst (λ (l : List Node). Quiet (noted x.id notes) x.gate l far) (append_assoc xs between made) two)
        ])
  ],
  kept_before notes a first second gates xs between after far few z k.1 b n.1,
)

-- a window gets other gates
pub window_noted : (notes : List ℕ) (c : ℕ) (gates : List Shape) (l : List Node) (far : ℕ) → NoneNoted notes (take c l) → Noted notes l far → Noted notes (with_gates c gates l) far
unfolding with_gates
window_noted notes zero gates l far u k = k
window_noted notes (suc c) gates [] far u k = tt
window_noted notes (suc c) [] (n ∷ rest) far u k = window_noted notes c [] rest far u.1 k.1
window_noted notes (suc c) (g ∷ gates) (n ∷ rest) far u k = (inl u.0, window_noted notes c gates rest far u.1 k.1)

-- ---- notes change

pub fewer_noted : (old new : List ℕ) (l : List Node) (far : ℕ) → Fewer old new → Noted old l far → Noted new l far
fewer_noted old new [] far f k = tt
fewer_noted old new (n ∷ rest) far f k = (
  elim (f n.id) [
    | inl z ↦ inl z
    | inr same ↦ (elim k.0 [ inl z ↦ inl (same ∙ z) | inr q ↦ inr (subst (λ (x : ℕ). Quiet x n.gate rest far) (sym same) q) ])
  ],
  fewer_noted old new rest far f k.1,
)

pub fewer_kept : (old new : List ℕ) (first second : Node) (gates : List Shape) (l : List Node) → Fewer old new → Kept old first second gates l → Kept new first second gates l
fewer_kept old new first second gates [] f k = tt
fewer_kept old new first second gates (n ∷ rest) f k = (
  elim (f n.id) [
    | inl z ↦ inl z
    | inr same ↦ (elim k.0 [ inl z ↦ inl (same ∙ z) | inr q ↦ inr (subst (λ (x : ℕ). Unnamed x n.gate first × Unnamed x n.gate second × Joinless n.gate gates) (sym same) q) ])
  ],
  fewer_kept old new first second gates rest f k.1,
)

pub fewer_unknown : (old new : List ℕ) (l : List Node) → Fewer old new → NoneNoted old l → NoneNoted new l
fewer_unknown old new [] f k = tt
fewer_unknown old new (n ∷ rest) f k = (elim (f n.id) [ inl z ↦ z | inr same ↦ same ∙ k.0 ], fewer_unknown old new rest f k.1)

pub fewer_on : (a b c : List ℕ) → Fewer a b → Fewer b c → Fewer a c
fewer_on a b c f g id = elim (g id) [ inl z ↦ inl z | inr same ↦ (elim (f id) [ inl z ↦ inl (same ∙ z) | inr e ↦ inr (same ∙ e) ]) ]

pub fewer_same : (a b : List ℕ) → b ≡ a → Fewer a b
fewer_same a b e id = inr (ap (noted id) e)

-- the note of one node goes
pub fewer_set : (old new : List ℕ) (node : ℕ) → noted node new ≡ 0 → Others node old new → Fewer old new
fewer_set old new node z o id = elim (cases_eq id node) [ inl e ↦ inl (ap (λ x. noted x new) e ∙ z) | inr ne ↦ inr (o id ne) ]

not_listed : (id node : ℕ) (rest : List Node) (n : Node) → lists node (ids_in (n ∷ rest)) ≡ false → n.id ≢ node
not_listed id node rest n off e = false≢true (sym off ∙ ap (λ x. lists x (ids_in (n ∷ rest))) (sym e) ∙ listed_at [] n rest)

pub known_others : (old new : List ℕ) (node : ℕ) (l : List Node) → lists node (ids_in l) ≡ false → Others node old new → AllNoted old l → AllNoted new l
known_others old new node [] off o k = tt
known_others old new node (n ∷ rest) off o k = (
  λ z. k.0 (sym (o n.id (not_listed 0 node rest n off)) ∙ z),
  known_others old new node rest (off_rest node n rest off) o k.1,
)
  where
    off_rest : (node : ℕ) (n : Node) (rest : List Node) → lists node (ids_in (n ∷ rest)) ≡ false → lists node (ids_in rest) ≡ false
    off_rest node n rest off = (or_parts (eqb node n.id) (lists node (ids_in rest)) off).1

pub noted_others : (old new : List ℕ) (node : ℕ) (l : List Node) (far : ℕ) → lists node (ids_in l) ≡ false → Others node old new → Noted old l far → Noted new l far
noted_others old new node [] far off o k = tt
noted_others old new node (n ∷ rest) far off o k = let i0 = noted_others old new node rest far in grind (arith, i0, not_listed, or_parts)

-- the note of a node is made
pub noted_at : (old new : List ℕ) (xs : List Node) (n : Node) (ys : List Node) (far : ℕ) → NoTwice (ids_in (xs ++ (n ∷ ys))) → Others n.id old new → Quiet (noted n.id new) n.gate ys far → Noted old (xs ++ (n ∷ ys)) far → Noted new (xs ++ (n ∷ ys)) far
noted_at old new [] n ys far d o q k = (inr q, noted_others old new n.id ys far d.0 o k.1)
noted_at old new (x ∷ xs) n ys far d o q k = let i0 = noted_at old new xs n ys far d.1 o q k.1 in grind (arith, i0, listed_at)

pub known_append : (notes : List ℕ) (xs ys : List Node) → AllNoted notes xs → AllNoted notes ys → AllNoted notes (xs ++ ys)
known_append notes [] ys k r = r
known_append notes (x ∷ xs) ys k r = (k.0, known_append notes xs ys k.1 r)

pub unknown_split : (notes : List ℕ) (xs ys : List Node) → NoneNoted notes (xs ++ ys) → NoneNoted notes xs × NoneNoted notes ys
unknown_split notes [] ys u = (tt, u)
unknown_split notes (x ∷ xs) ys u = let r = unknown_split notes xs ys u.1 in ((u.0, r.0), r.1)

pub unknown_append : (notes : List ℕ) (xs ys : List Node) → NoneNoted notes xs → NoneNoted notes ys → NoneNoted notes (xs ++ ys)
unknown_append notes [] ys u r = r
unknown_append notes (x ∷ xs) ys u r = (u.0, unknown_append notes xs ys u.1 r)

pub apart_nothing : (notes : List ℕ) (l : List Node) → Apart notes [] l
apart_nothing notes [] = tt
apart_nothing notes (n ∷ rest) = (inr tt, apart_nothing notes rest)

pub fewer_zero : (old new : List ℕ) (a : ℕ) → Fewer old new → noted a old ≡ 0 → noted a new ≡ 0
fewer_zero old new a f z = elim (f a) [ inl e ↦ e | inr same ↦ same ∙ z ]

pub known_first : (notes : List ℕ) (c : ℕ) (l : List Node) → AllNoted notes l → AllNoted notes (take c l)
known_first notes zero l k = tt
known_first notes (suc c) [] k = tt
known_first notes (suc c) (n ∷ rest) k = (k.0, known_first notes c rest k.1)
