-- Phases: products and sums that are kept.
use Rattle.std.proofs.Common.{◌≡◌, ℕ, zero, suc, ◌+◌, ◌-◌, ◌*◌, ◌%◌, ◌<◌, ◌≤◌, Bool, true, false, ◌&&◌, cond, List, [], ◌∷◌, ◌++◌, length, take, drop, set, get_or, sym, ◌∙◌, ap, arith}
use Rattle.std.specs.List.{remove}
use Rattle.std.proofs.lemmas.List.{take_more, take-append-drop}
use Rattle.std.proofs.Math.Seq.{take-length, drop-cons}
use Rattle.rv_gate.specs.Word.{has}
use Rattle.rv_gate.specs.Gate.{xor}
use Rattle.rv_terms.specs.Products.{value, parity, odd, always, meets, less}
use Rattle.rv_terms.specs.Phases.{total, total_kept}
use Rattle.rv_terms.specs.inside.Put.{IsPut}
use Rattle.rv_terms.specs.declared.product.Product.{Product}
use Rattle.rv_terms.specs.declared.terms.Term.{Term}
use Rattle.rv_terms.specs.declared.kept.Kept.{Kept}
use Rattle.rv_terms.proofs.Products.{value-always}
use Rattle.rv_terms.proofs.Parities.{parity-push}
use Rattle.rv_terms.proofs.Puts.{value_free, put_on, put_off, single}
use Rattle.rv_terms.proofs.Totals.{worth, total-next, removed, changed, by_default}

-- what a sum that is kept adds
abbrev pub kept_worth : Kept → List Bool → List Bool → ℕ
kept_worth k x v = cond (odd k.sum x v) k.weight 0

pub kept-append : (a b : List Kept) (x v : List Bool) → total_kept (a ++ b) x v ≡ total_kept a x v + total_kept b x v
kept-append [] b x v = omega arith
kept-append (k ∷ a) b x v = omega (arith, kept-append a b x v)

pub kept-push : (a : List Kept) (k : Kept) (x v : List Bool) → total_kept (a ++ k ∷ []) x v ≡ total_kept a x v + kept_worth k x v
kept-push a k x v = omega (arith, kept-append a (k ∷ []) x v)

pub kept-next : (a : List Kept) (i : ℕ) (d : Kept) (x v : List Bool) → i < length a
    → total_kept (take (i + 1) a) x v ≡ total_kept (take i a) x v + kept_worth (get_or a i d) x v
kept-next a i d x v lt = ap (λ t. total_kept t x v) (take_more a i d lt) ∙ kept-push (take i a) (get_or a i d) x v

pub total_all : (a : List Term) (n : ℕ) (x v : List Bool) → length a ≤ n → n ≤ length a → total (take n a) x v ≡ total a x v
total_all a n x v le ge =
    let e : n ≡ length a = omega arith in
    ap (λ k. total (take k a) x v) e ∙ ap (λ t. total t x v) (take-length a)

pub kept_all : (a : List Kept) (n : ℕ) (x v : List Bool) → length a ≤ n → n ≤ length a → total_kept (take n a) x v ≡ total_kept a x v
kept_all a n x v le ge =
    let e : n ≡ length a = omega arith in
    ap (λ k. total_kept (take k a) x v) e ∙ ap (λ t. total_kept t x v) (take-length a)

-- ---- numbers modulo 8

pub and_kept : (new old add kept : ℕ) → new % 8 ≡ (old + add) % 8 → (new + kept) % 8 ≡ ((old + kept) % 8 + add) % 8
and_kept new old add kept e = omega arith

pub power_added : (new old add total : ℕ) → new ≡ (old + add) % 8 → old ≡ total % 8 → new ≡ (total + add) % 8
power_added new old add total e f = omega arith

pub opened : (new old kept worth before : ℕ) → new % 8 ≡ (old + worth) % 8 → (old + (kept + worth)) % 8 ≡ before
    → (new + kept) % 8 ≡ before
opened new old kept worth before e f = omega arith

-- ---- sums that are lifted

pub opened_more : (new old : List Term) (before left : List Kept) (k : Kept) (b : Bool) (p : ℕ) (x v : List Bool)
    → before ≡ left ++ k ∷ [] → b ≡ odd k.sum x v
    → total new x v % 8 ≡ (total old x v + cond b k.weight 0) % 8
    → (total old x v + total_kept before x v) % 8 ≡ p
    → (total new x v + total_kept left x v) % 8 ≡ p
opened_more new old before left k b p x v is same e f =
    let n : total_kept before x v ≡ total_kept left x v + kept_worth k x v = ap (λ t. total_kept t x v) is ∙ kept-push left k x v in
    let w : cond b k.weight 0 ≡ kept_worth k x v = ap (λ t. cond t k.weight 0) same in
    opened (total new x v) (total old x v) (total_kept left x v) (kept_worth k x v) p (omega (arith, e, w)) (omega (arith, f, n))

-- ---- path bits that stand nowhere

pub free_term : (terms : List Term) (d : Term) (i path : ℕ) (x v : List Bool) (bit : Bool) → i < length terms
    → has (get_or terms i d).product.paths path ≡ false
    → total (take i terms) x (set v path bit) ≡ total (take i terms) x v
    → total (take (i + 1) terms) x (set v path bit) ≡ total (take (i + 1) terms) x v
free_term terms d i path x v bit lt off so_far =
    let t = get_or terms i d in
    total-next terms i d x (set v path bit) lt
    ∙ ap (λ n. n + worth t x (set v path bit)) so_far
    ∙ ap (λ b. total (take i terms) x v + cond b t.weight 0) (value_free t.product path x v bit off)
    ∙ sym (total-next terms i d x v lt)

pub free_kept : (kept : List Kept) (k : Kept) (i path : ℕ) (x v : List Bool) (bit : Bool) → i < length kept
    → k ≡ get_or kept i k → odd k.sum x (set v path bit) ≡ odd k.sum x v
    → total_kept (take i kept) x (set v path bit) ≡ total_kept (take i kept) x v
    → total_kept (take (i + 1) kept) x (set v path bit) ≡ total_kept (take (i + 1) kept) x v
free_kept kept k i path x v bit lt here free so_far =
    kept-next kept i k x (set v path bit) lt
    ∙ ap (λ n. n + kept_worth (get_or kept i k) x (set v path bit)) so_far
    ∙ ap (λ t. total_kept (take i kept) x v + kept_worth t x (set v path bit)) (sym here)
    ∙ ap (λ b. total_kept (take i kept) x v + cond b k.weight 0) free
    ∙ ap (λ t. total_kept (take i kept) x v + kept_worth t x v) here
    ∙ sym (kept-next kept i k x v lt)

-- ---- copies

pub copied_more : (kept made : List Kept) (k next : Kept) (i : ℕ) (x v : List Bool) → i < length kept → k ≡ get_or kept i k
    → next.weight ≡ k.weight → odd next.sum x v ≡ odd k.sum x v
    → total_kept made x v ≡ total_kept (take i kept) x v
    → total_kept (made ++ next ∷ []) x v ≡ total_kept (take (i + 1) kept) x v
copied_more kept made k next i x v lt here same sum so_far =
    kept-push made next x v
    ∙ ap (λ n. n + kept_worth next x v) so_far
    ∙ ap (λ w. total_kept (take i kept) x v + cond (odd next.sum x v) w 0) same
    ∙ ap (λ b. total_kept (take i kept) x v + cond b k.weight 0) sum
    ∙ ap (λ t. total_kept (take i kept) x v + kept_worth t x v) here
    ∙ sym (kept-next kept i k x v lt)

-- ---- signs

sign_step : (a b : Bool) (t : ℕ) → t % 8 ≡ cond a 4 0 → (t + cond b 4 0) % 8 ≡ cond (xor a b) 4 0
sign_step true true t e = omega arith
sign_step true false t e = omega arith
sign_step false true t e = omega arith
sign_step false false t e = omega arith

pub sign_more : (terms : List Term) (made : List Product) (d : Term) (i : ℕ) (x v : List Bool) → i < length terms
    → (get_or terms i d).weight ≡ 4
    → total (take i terms) x v % 8 ≡ cond (parity made x v) 4 0
    → total (take (i + 1) terms) x v % 8 ≡ cond (parity (made ++ (get_or terms i d).product ∷ []) x v) 4 0
sign_more terms made d i x v lt four so_far =
    let t = get_or terms i d in
    ap (λ n. n % 8) (total-next terms i d x v lt)
    ∙ ap (λ w. (total (take i terms) x v + cond (value t.product x v) w 0) % 8) four
    ∙ sign_step (parity made x v) (value t.product x v) (total (take i terms) x v) so_far
    ∙ ap (λ b. cond b 4 0) (sym (parity-push made t.product x v))

-- ---- a bit that is put for another one

pub put_term : (terms : List Term) (d : Term) (i new old : ℕ) (y w : List Bool) → i < length terms
    → new ≡ (old + worth (get_or terms i d) y w) % 8 → old ≡ total (take i terms) y w % 8
    → new ≡ total (take (i + 1) terms) y w % 8
put_term terms d i new old y w lt e f = omega (arith, e, f, total-next terms i d y w lt)

pub put_kept : (kept : List Kept) (k : Kept) (i new old before : ℕ) (b : Bool) (y w : List Bool) → i < length kept → k ≡ get_or kept i k
    → b ≡ odd k.sum y w → new ≡ (old + cond b k.weight 0) % 8 → old ≡ (before + total_kept (take i kept) y w) % 8
    → new ≡ (before + total_kept (take (i + 1) kept) y w) % 8
put_kept kept k i new old before b y w lt here same e f =
    let g : cond b k.weight 0 ≡ kept_worth (get_or kept i k) y w =
    ap (λ t. cond t k.weight 0) same ∙ ap (λ t. kept_worth t y w) here in
    omega (arith, e, f, g, kept-next kept i k y w lt)

-- ---- what a path bit brings

pub part_on : (one none t s p q w : ℕ) (b : Bool) → one % 8 ≡ (none + p) % 8 → t ≡ cond b w 0 → s ≡ 0 → q ≡ (p + cond b w 0) % 8
    → (one + t) % 8 ≡ (none + s + q) % 8
part_on one none t s p q w b e f g h = omega arith

pub part_off : (one none t s p : ℕ) → one % 8 ≡ (none + p) % 8 → t ≡ s → (one + t) % 8 ≡ (none + s + p) % 8
part_off one none t s p e f = omega arith

and_true : (b : Bool) → (b && true) ≡ b
and_true b = grind arith

and_false : (b : Bool) → (b && false) ≡ false
and_false b = grind arith

pub part_term_on : (terms : List Term) (bit : Product) (d : Term) (i p q : ℕ) (x v y w z u : List Bool) → i < length terms
    → meets (get_or terms i d).product bit ≡ true
    → q ≡ (p + cond (value (less (get_or terms i d).product bit) x v) (get_or terms i d).weight 0) % 8
    → IsPut bit [] x v y w → IsPut bit (always ∷ []) x v z u
    → total (take i terms) z u % 8 ≡ (total (take i terms) y w + p) % 8
    → total (take (i + 1) terms) z u % 8 ≡ (total (take (i + 1) terms) y w + q) % 8
part_term_on terms bit d i p q x v y w z u lt on is off_put on_put so_far =
    let t = get_or terms i d in
    let b = value (less t.product bit) x v in
    let one : worth t z u ≡ cond b t.weight 0 =
    ap (λ c. cond c t.weight 0) (put_on t.product bit (always ∷ []) x v z u on on_put ∙ ap (λ c. b && c) (single x v) ∙ and_true b) in
    let none : worth t y w ≡ 0 = ap (λ c. cond c t.weight 0) (put_on t.product bit [] x v y w on off_put ∙ and_false b) in
    ap (λ n. n % 8) (total-next terms i d z u lt)
    ∙ part_on (total (take i terms) z u) (total (take i terms) y w) (worth t z u) (worth t y w) p q t.weight b so_far one none is
    ∙ ap (λ n. (n + q) % 8) (sym (total-next terms i d y w lt))

pub part_term_off : (terms : List Term) (bit : Product) (d : Term) (i p : ℕ) (x v y w z u : List Bool) → i < length terms
    → meets (get_or terms i d).product bit ≡ false
    → IsPut bit [] x v y w → IsPut bit (always ∷ []) x v z u
    → total (take i terms) z u % 8 ≡ (total (take i terms) y w + p) % 8
    → total (take (i + 1) terms) z u % 8 ≡ (total (take (i + 1) terms) y w + p) % 8
part_term_off terms bit d i p x v y w z u lt off off_put on_put so_far =
    let t = get_or terms i d in
    let same : worth t z u ≡ worth t y w =
    ap (λ c. cond c t.weight 0) (put_off t.product bit (always ∷ []) x v z u off on_put ∙ sym (put_off t.product bit [] x v y w off off_put)) in
    ap (λ n. n % 8) (total-next terms i d z u lt)
    ∙ part_off (total (take i terms) z u) (total (take i terms) y w) (worth t z u) (worth t y w) p so_far same
    ∙ ap (λ n. (n + p) % 8) (sym (total-next terms i d y w lt))

kept_step : (a b k l p q m n : ℕ) → (a + k) % 8 ≡ (b + l + p) % 8 → (q + n) % 8 ≡ (p + m) % 8
    → (a + (k + m)) % 8 ≡ (b + (l + n) + q) % 8
kept_step a b k l p q m n e f = omega arith

pub part_kept : (kept : List Kept) (k : Kept) (i a b p q : ℕ) (y w z u : List Bool) → i < length kept → k ≡ get_or kept i k
    → (q + kept_worth k y w) % 8 ≡ (p + kept_worth k z u) % 8
    → (a + total_kept (take i kept) z u) % 8 ≡ (b + total_kept (take i kept) y w + p) % 8
    → (a + total_kept (take (i + 1) kept) z u) % 8 ≡ (b + total_kept (take (i + 1) kept) y w + q) % 8
part_kept kept k i a b p q y w z u lt here is so_far =
    ap (λ n. (a + n) % 8) (kept-next kept i k z u lt ∙ ap (λ t. total_kept (take i kept) z u + kept_worth t z u) (sym here))
    ∙ kept_step a b (total_kept (take i kept) z u) (total_kept (take i kept) y w) p q (kept_worth k z u) (kept_worth k y w) so_far is
    ∙ ap (λ n. (b + n + q) % 8) (sym (kept-next kept i k y w lt ∙ ap (λ t. total_kept (take i kept) y w + kept_worth t y w) (sym here)))

-- [y a + b] = [b] + y ([a] - 2 [a b])
pub lifted_part : (a b o e : Bool) (p q r w both : ℕ) → both ≡ (16 - w % 8 * 2) % 8
    → e ≡ xor (a && false) b → o ≡ xor (a && true) b
    → q ≡ (p + cond a w 0) % 8 → r ≡ (q + cond (a && b) both 0) % 8
    → (r + cond e w 0) % 8 ≡ (p + cond o w 0) % 8
lifted_part true true true e p q r w both m f g h k = absurd cc
lifted_part true true false true p q r w both m f g h k = omega arith
lifted_part true true false false p q r w both m f g h k = absurd cc
lifted_part true false true true p q r w both m f g h k = absurd cc
lifted_part true false true false p q r w both m f g h k = omega arith
lifted_part true false false e p q r w both m f g h k = absurd cc
lifted_part false true true true p q r w both m f g h k = omega arith
lifted_part false true true false p q r w both m f g h k = absurd cc
lifted_part false true false e p q r w both m f g h k = absurd cc
lifted_part false false true e p q r w both m f g h k = absurd cc
lifted_part false false false true p q r w both m f g h k = absurd cc
lifted_part false false false false p q r w both m f g h k = omega arith

pub no_kept : (kept : List Kept) (t : ℕ) (x v : List Bool) → length kept ≡ 0 → (t + total_kept kept x v) % 8 ≡ t % 8
no_kept [] t x v none = omega arith
no_kept (k ∷ kept) t x v none = absurd (omega arith)

-- ---- sums that are kept

split : (a : List Kept) (i : ℕ) (x v : List Bool) → total_kept a x v ≡ total_kept (take i a) x v + total_kept (drop i a) x v
split a i x v = ap (λ t. total_kept t x v) (sym (take-append-drop i a)) ∙ kept-append (take i a) (drop i a) x v

pub kept-remove : (a : List Kept) (i : ℕ) (d : Kept) (x v : List Bool) → i < length a
    → total_kept (remove a i) x v + kept_worth (get_or a i d) x v ≡ total_kept a x v
kept-remove a i d x v lt =
    let e : total_kept (drop i a) x v ≡ kept_worth (get_or a i d) x v + total_kept (drop (suc i) a) x v =
    ap (λ t. total_kept t x v) (drop-cons a i d lt) in
    omega (arith, e, split a i x v, kept-append (take i a) (drop (suc i) a) x v)

pub kept-set : (a : List Kept) (i : ℕ) (k d : Kept) (x v : List Bool) → i < length a
    → total_kept (set a i k) x v + kept_worth (get_or a i d) x v ≡ total_kept a x v + kept_worth k x v
kept-set [] i k d x v lt = absurd (omega arith)
kept-set (s ∷ a) zero k d x v lt = omega arith
kept-set (s ∷ a) (suc i) k d x v lt = omega (arith, kept-set a i k d x v (omega arith))

pub kept_removed : (a b : List Kept) (found d : Kept) (i weight : ℕ) (x v : List Bool) → i < length a
    → found ≡ get_or a i found → (found.weight % 8 + weight % 8) % 8 ≡ 0 → b ≡ remove a i
    → total_kept b x v % 8 ≡ (total_kept a x v + cond (odd (get_or a i d).sum x v) weight 0) % 8
kept_removed a b found d i weight x v lt here none is =
    let p = odd (get_or a i d).sum x v in
    let same : (get_or a i d).weight ≡ found.weight = ap (λ k. k.weight) (by_default a i d found lt ∙ sym here) in
    let w : kept_worth (get_or a i d) x v ≡ cond p found.weight 0 = ap (λ c. cond p c 0) same in
    let n : total_kept b x v ≡ total_kept (remove a i) x v = ap (λ t. total_kept t x v) is in
    removed p (total_kept b x v) (total_kept a x v) found.weight weight none (omega (arith, kept-remove a i d x v lt, w, n))

pub kept_changed : (a b : List Kept) (found changing next d : Kept) (i weight : ℕ) (x v : List Bool) → i < length a
    → found ≡ get_or a i found → changing ≡ get_or a i changing → next.sum ≡ changing.sum
    → next.weight ≡ (found.weight % 8 + weight % 8) % 8 → b ≡ set a i next
    → total_kept b x v % 8 ≡ (total_kept a x v + cond (odd (get_or a i d).sum x v) weight 0) % 8
kept_changed a b found changing next d i weight x v lt here there sums sum is =
    let p = odd (get_or a i d).sum x v in
    let same : (get_or a i d).weight ≡ found.weight = ap (λ k. k.weight) (by_default a i d found lt ∙ sym here) in
    let w : kept_worth (get_or a i d) x v ≡ cond p found.weight 0 = ap (λ c. cond p c 0) same in
    let q : odd next.sum x v ≡ p =
    ap (λ t. odd t x v) (sums ∙ ap (λ k. k.sum) (there ∙ by_default a i changing d lt)) in
    let m : kept_worth next x v ≡ cond p next.weight 0 = ap (λ c. cond c next.weight 0) q in
    let n : total_kept b x v ≡ total_kept (set a i next) x v = ap (λ t. total_kept t x v) is in
    changed p (total_kept b x v) (total_kept a x v) found.weight weight next.weight sum (omega (arith, kept-set a i next d x v lt, w, m, n))

pub kept_pushed : (a b : List Kept) (k : Kept) (p : Bool) (x v : List Bool) → odd k.sum x v ≡ p → b ≡ a ++ k ∷ []
    → total_kept b x v % 8 ≡ (total_kept a x v + cond p k.weight 0) % 8
kept_pushed a b k p x v same is =
    ap (λ t. total_kept t x v % 8) is ∙ ap (λ n. n % 8) (kept-push a k x v)
    ∙ ap (λ c. (total_kept a x v + cond c k.weight 0) % 8) same

pub and_terms : (new old add terms : ℕ) → new % 8 ≡ (old + add) % 8 → (terms + new) % 8 ≡ ((terms + old) % 8 + add) % 8
and_terms new old add terms e = omega arith

-- [1 + r] = 1 - [r]
pub with_one : (r : Bool) (new mid old w given : ℕ) → w ≡ given % 8 → mid ≡ (old + w) % 8 → new ≡ (mid + cond r ((8 - w) % 8) 0) % 8
    → new ≡ (old + cond (xor true r) given 0) % 8
with_one true new mid old w given m e f = omega arith
with_one false new mid old w given m e f = omega arith

pub less_eight : (r : Bool) (new old given : ℕ) → new ≡ (old + cond r (given % 8) 0) % 8 → new ≡ (old + cond r given 0) % 8
less_eight true new old given e = omega arith
less_eight false new old given e = omega arith

pub first_one : (a r : List Product) (x v : List Bool) → 0 < length a → get_or a 0 always ≡ always → r ≡ drop 1 a
    → parity a x v ≡ xor true (parity r x v)
first_one [] r x v some one is = absurd (omega arith)
first_one (p ∷ a) r x v some one is =
    ap (λ q. xor (value q x v) (parity a x v)) one ∙ ap (λ b. xor b (parity a x v)) (value-always x v)
    ∙ ap (λ t. xor true (parity t x v)) (sym is)
