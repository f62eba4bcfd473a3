-- Weights of products, modulo 8.
use Rattle.std.proofs.Common.{◌≡◌, ℕ, zero, suc, ◌+◌, ◌-◌, ◌*◌, ◌%◌, ◌<◌, ◌≤◌, Bool, true, false, ◌&&◌, cond, List, [], ◌∷◌, ◌++◌, length, take, drop, set, get_or, refl, sym, ◌∙◌, ap, arith}
use Rattle.std.specs.List.{insert, remove, sum_by}
use Rattle.std.specs.List.Sorted.{IsPermutation}
use Rattle.std.proofs.lemmas.List.Sorted.{sum_by-IsPermutation}
use Rattle.std.proofs.lemmas.List.Sums.{sum_by-cons}
use Rattle.std.proofs.lemmas.List.{take_more, take-append-drop}
use Rattle.std.proofs.Math.Seq.{drop-cons, take-length}
use Rattle.rv_gate.specs.Gate.{xor}
use Rattle.rv_terms.specs.Products.{value, parity}
use Rattle.rv_terms.specs.Phases.{total}
use Rattle.rv_terms.specs.declared.product.Product.{Product}
use Rattle.rv_terms.specs.declared.terms.Term.{Term}
use Rattle.rv_terms.proofs.Parities.{parity-next}

-- what a term adds
abbrev pub worth : Term → List Bool → List Bool → ℕ
worth t x v = cond (value t.product x v) t.weight 0

pub total-append : (a b : List Term) (x v : List Bool) → total (a ++ b) x v ≡ total a x v + total b x v
total-append [] b x v = omega arith
total-append (t ∷ a) b x v = omega (arith, total-append a b x v)

pub total-next : (a : List Term) (i : ℕ) (d : Term) (x v : List Bool) → i < length a
    → total (take (i + 1) a) x v ≡ total (take i a) x v + worth (get_or a i d) x v
total-next a i d x v lt =
    let e : total (take (i + 1) a) x v ≡ total (take i a ++ get_or a i d ∷ []) x v = ap (λ t. total t x v) (take_more a i d lt) in
    let f = total-append (take i a) (get_or a i d ∷ []) x v in
    omega (arith, e, f)

split : (a : List Term) (i : ℕ) (x v : List Bool) → total a x v ≡ total (take i a) x v + total (drop i a) x v
split a i x v = ap (λ t. total t x v) (sym (take-append-drop i a)) ∙ total-append (take i a) (drop i a) x v

pub total-insert : (a : List Term) (i : ℕ) (t : Term) (x v : List Bool)
    → total (insert a i t) x v ≡ total a x v + worth t x v
total-insert a i t x v = omega (arith, split a i x v, total-append (take i a) (t ∷ drop i a) x v)

pub total-remove : (a : List Term) (i : ℕ) (d : Term) (x v : List Bool) → i < length a
    → total (remove a i) x v + worth (get_or a i d) x v ≡ total a x v
total-remove a i d x v lt =
    let e : total (drop i a) x v ≡ worth (get_or a i d) x v + total (drop (suc i) a) x v = ap (λ t. total t x v) (drop-cons a i d lt) in
    omega (arith, e, split a i x v, total-append (take i a) (drop (suc i) a) x v)

pub total-set : (a : List Term) (i : ℕ) (t d : Term) (x v : List Bool) → i < length a
    → total (set a i t) x v + worth (get_or a i d) x v ≡ total a x v + worth t x v
total-set [] i t d x v lt = absurd (omega arith)
total-set (s ∷ a) zero t d x v lt = omega arith
total-set (s ∷ a) (suc i) t d x v lt = omega (arith, total-set a i t d x v (omega arith))

-- ---- one more term

pub removed : (b : Bool) (new old had weight : ℕ) → (had % 8 + weight % 8) % 8 ≡ 0 → new + cond b had 0 ≡ old
    → new % 8 ≡ (old + cond b weight 0) % 8
removed true new old had weight z e = omega arith
removed false new old had weight z e = omega arith

pub changed : (b : Bool) (new old had weight next : ℕ) → next ≡ (had % 8 + weight % 8) % 8 → new + cond b had 0 ≡ old + cond b next 0
    → new % 8 ≡ (old + cond b weight 0) % 8
changed true new old had weight next n e = omega arith
changed false new old had weight next n e = omega arith

inserted : (b : Bool) (new old weight : ℕ) → new ≡ old + cond b (weight % 8) 0 → new % 8 ≡ (old + cond b weight 0) % 8
inserted true new old weight e = omega arith
inserted false new old weight e = omega arith

nothing : (b : Bool) (old weight : ℕ) → weight % 8 ≡ 0 → old % 8 ≡ (old + cond b weight 0) % 8
nothing true old weight e = omega arith
nothing false old weight e = omega arith

pub by_default : {A : Type 0} (a : List A) (i : ℕ) (d e : A) → i < length a → get_or a i d ≡ get_or a i e
by_default [] i d e lt = absurd (omega arith)
by_default (t ∷ a) zero d e lt = refl
by_default (t ∷ a) (suc i) d e lt = by_default a i d e (omega arith)

pub found_same : (a : List Term) (i : ℕ) (f g : Term) → i < length a → f ≡ get_or a i f → g ≡ get_or a i g → f ≡ g
found_same a i f g lt p q = p ∙ by_default a i f g lt ∙ sym q

pub term_removed : (a b : List Term) (found : Term) (product : Product) (i weight : ℕ) (x v : List Bool) → i < length a
    → found ≡ get_or a i found → found.product ≡ product → (found.weight % 8 + weight % 8) % 8 ≡ 0 → b ≡ remove a i
    → total b x v % 8 ≡ (total a x v + cond (value product x v) weight 0) % 8
term_removed a b found product i weight x v lt here same none is =
    let r = total-remove a i found x v lt in
    let w : worth (get_or a i found) x v ≡ cond (value product x v) found.weight 0 =
    ap (λ t. worth t x v) (sym here) ∙ ap (λ p. cond (value p x v) found.weight 0) same in
    let n : total b x v ≡ total (remove a i) x v = ap (λ t. total t x v) is in
    removed (value product x v) (total b x v) (total a x v) found.weight weight none (omega (arith, r, w, n))

pub term_changed : (a b : List Term) (found term : Term) (product : Product) (i weight : ℕ) (x v : List Bool) → i < length a
    → found ≡ get_or a i found → found.product ≡ product → term.product ≡ product
    → term.weight ≡ (found.weight % 8 + weight % 8) % 8 → b ≡ set a i term
    → total b x v % 8 ≡ (total a x v + cond (value product x v) weight 0) % 8
term_changed a b found term product i weight x v lt here same made next is =
    let r = total-set a i term found x v lt in
    let w : worth (get_or a i found) x v ≡ cond (value product x v) found.weight 0 =
    ap (λ t. worth t x v) (sym here) ∙ ap (λ p. cond (value p x v) found.weight 0) same in
    let m : worth term x v ≡ cond (value product x v) term.weight 0 = ap (λ p. cond (value p x v) term.weight 0) made in
    let n : total b x v ≡ total (set a i term) x v = ap (λ t. total t x v) is in
    changed (value product x v) (total b x v) (total a x v) found.weight weight term.weight next (omega (arith, r, w, m, n))

pub term_inserted : (a b : List Term) (term : Term) (product : Product) (i weight : ℕ) (x v : List Bool)
    → term.product ≡ product → term.weight ≡ weight % 8 → b ≡ insert a i term
    → total b x v % 8 ≡ (total a x v + cond (value product x v) weight 0) % 8
term_inserted a b term product i weight x v made w is =
    let r = total-insert a i term x v in
    let m : worth term x v ≡ cond (value product x v) (weight % 8) 0 =
    ap (λ p. cond (value p x v) term.weight 0) made ∙ ap (λ k. cond (value product x v) k 0) w in
    let n : total b x v ≡ total (insert a i term) x v = ap (λ t. total t x v) is in
    inserted (value product x v) (total b x v) (total a x v) weight (omega (arith, r, m, n))

pub term_none : (a : List Term) (product : Product) (weight : ℕ) (x v : List Bool) → weight % 8 ≡ 0
    → total a x v % 8 ≡ (total a x v + cond (value product x v) weight 0) % 8
term_none a product weight x v none = nothing (value product x v) (total a x v) weight none

-- ---- sums that are lifted

pub lift_none : (b : Bool) (old weight : ℕ) → weight % 8 ≡ 0 → old % 8 ≡ (old + cond b weight 0) % 8
lift_none b old weight e = nothing b old weight e

pub lift_start : (s : Bool) (old weight : ℕ) → old % 8 ≡ (old + cond (s && false) weight 0) % 8
lift_start true old weight = omega arith
lift_start false old weight = omega arith

lift_step : (s p r : Bool) (w both t u k l : ℕ) → both ≡ (16 - w % 8 * 2) % 8
    → u % 8 ≡ (t + cond (s && r) w 0) % 8
    → k % 8 ≡ (u + cond (s && p) w 0) % 8
    → l % 8 ≡ (k + cond ((s && p) && r) both 0) % 8
    → l % 8 ≡ (t + cond (s && xor r p) w 0) % 8
lift_step true true true w both t u k l e f g h = omega arith
lift_step true true false w both t u k l e f g h = omega arith
lift_step true false true w both t u k l e f g h = omega arith
lift_step true false false w both t u k l e f g h = omega arith
lift_step false p r w both t u k l e f g h = omega arith

pub lift_more : (products : List Product) (d next scale : Product) (i w both t u k l : ℕ) (x v : List Bool) → i < length products
    → value next x v ≡ (value scale x v && value (get_or products i d) x v)
    → both ≡ (16 - w % 8 * 2) % 8
    → u % 8 ≡ (t + cond (value scale x v && parity (take i products) x v) w 0) % 8
    → k % 8 ≡ (u + cond (value next x v) w 0) % 8
    → l % 8 ≡ (k + cond (value next x v && parity (take i products) x v) both 0) % 8
    → l % 8 ≡ (t + cond (value scale x v && parity (take (i + 1) products) x v) w 0) % 8
lift_more products d next scale i w both t u k l x v lt is e f g h =
    let s = value scale x v in
    let p = value (get_or products i d) x v in
    let r = parity (take i products) x v in
    lift_step s p r w both t u k l e f (g ∙ ap (λ b. (u + cond b w 0) % 8) is) (h ∙ ap (λ b. (k + cond (b && r) both 0) % 8) is)
    ∙ ap (λ b. (t + cond (s && b) w 0) % 8) (sym (parity-next products i d x v lt))

-- ---- terms at the end

pushed : (b : Bool) (new old weight : ℕ) → new ≡ old + cond b (weight % 8) 0 → new % 8 ≡ (old + cond b weight 0) % 8
pushed b new old weight e = inserted b new old weight e

pub term_pushed : (a b : List Term) (product : Product) (weight : ℕ) (x v : List Bool)
    → b ≡ a ++ record { product = product; weight = weight % 8 } ∷ []
    → total b x v % 8 ≡ (total a x v + cond (value product x v) weight 0) % 8
term_pushed a b product weight x v is =
    let e = ap (λ t. total t x v) is in
    let f = total-append a (record { product = product; weight = weight % 8 } ∷ []) x v in
    pushed (value product x v) (total b x v) (total a x v) weight (omega (arith, e, f))

pub popped : (a b : List Term) (last : Term) (n : ℕ) (x v : List Bool) → n + 1 ≡ length a → last ≡ get_or a n last → b ≡ take n a
    → total b x v + worth last x v ≡ total a x v
popped a b last n x v count here is =
    let e : total a x v ≡ total (take n a) x v + worth (get_or a n last) x v =
    ap (λ t. total t x v) (sym (take-length a) ∙ ap (λ k. take k a) (sym count)) ∙ total-next a n last x v (omega arith) in
    let f : total b x v ≡ total (take n a) x v = ap (λ t. total t x v) is in
    let g : worth last x v ≡ worth (get_or a n last) x v = ap (λ t. worth t x v) here in
    omega (arith, e, f, g)

joined_step : (b : Bool) (new mid old had weight next : ℕ) → next ≡ (had % 8 + weight % 8) % 8
    → new % 8 ≡ (mid + cond b next 0) % 8 → mid + cond b had 0 ≡ old → new % 8 ≡ (old + cond b weight 0) % 8
joined_step true new mid old had weight next n e f = omega arith
joined_step false new mid old had weight next n e f = omega arith

pub joined : (a b c : List Term) (last : Term) (product : Product) (n weight next : ℕ) (x v : List Bool) → n + 1 ≡ length a
    → last ≡ get_or a n last → last.product ≡ product → b ≡ take n a → next ≡ (last.weight % 8 + weight % 8) % 8
    → total c x v % 8 ≡ (total b x v + cond (value product x v) next 0) % 8
    → total c x v % 8 ≡ (total a x v + cond (value product x v) weight 0) % 8
joined a b c last product n weight next x v count here same is sum made =
    let w : worth last x v ≡ cond (value product x v) last.weight 0 = ap (λ p. cond (value p x v) last.weight 0) same in
    joined_step (value product x v) (total c x v) (total b x v) (total a x v) last.weight weight next sum made
    (omega (arith, w, popped a b last n x v count here is))

pub joined_away : (a b : List Term) (last : Term) (product : Product) (n weight : ℕ) (x v : List Bool) → n + 1 ≡ length a
    → last ≡ get_or a n last → last.product ≡ product → b ≡ take n a → (last.weight % 8 + weight % 8) % 8 ≡ 0
    → total b x v % 8 ≡ (total a x v + cond (value product x v) weight 0) % 8
joined_away a b last product n weight x v count here same is none =
    let w : worth last x v ≡ cond (value product x v) last.weight 0 = ap (λ p. cond (value p x v) last.weight 0) same in
    removed (value product x v) (total b x v) (total a x v) last.weight weight none
    (omega (arith, w, popped a b last n x v count here is))

sums_of : (a : List Term) (x v : List Bool) → total a x v ≡ sum_by (λ t. worth t x v) a
sums_of [] x v = refl
sums_of (t ∷ a) x v = omega (arith, sums_of a x v, sum_by-cons (λ (s : Term). worth s x v) t a)

-- the order doesn't matter
pub total-permuted : (a b : List Term) (x v : List Bool) → IsPermutation a b → total b x v ≡ total a x v
total-permuted a b x v moved =
    sums_of b x v ∙ sum_by-IsPermutation (λ (t : Term). worth t x v) a b moved ∙ sym (sums_of a x v)

-- one term more goes over
pub total_more : (terms : List Term) (d : Term) (i made so_far start : ℕ) (x v : List Bool) → i < length terms
    → made % 8 ≡ (so_far + worth (get_or terms i d) x v) % 8 → so_far % 8 ≡ (start + total (take i terms) x v) % 8
    → made % 8 ≡ (start + total (take (i + 1) terms) x v) % 8
total_more terms d i made so_far start x v lt e f = omega (arith, e, f, total-next terms i d x v lt)

pub total_whole : (terms : List Term) (n made start : ℕ) (x v : List Bool) → length terms ≤ n → n ≤ length terms
    → made % 8 ≡ (start + total (take n terms) x v) % 8 → made % 8 ≡ (start + total terms x v) % 8
total_whole terms n made start x v le ge e =
    let m : n ≡ length terms = omega arith in
    e ∙ ap (λ k. (start + k) % 8) (ap (λ k. total (take k terms) x v) m ∙ ap (λ t. total t x v) (take-length terms))

pub lifted_few : (new old more add : ℕ) → new % 8 ≡ (old + more) % 8 → more % 8 ≡ (0 + add) % 8 → new % 8 ≡ (old + add) % 8
lifted_few new old more add e f = omega arith
