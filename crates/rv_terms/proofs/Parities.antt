-- Sums of products.
use Rattle.std.proofs.Common.{◌≡◌, ℕ, suc, ◌+◌, ◌%◌, ◌<◌, ◌≤◌, Bool, true, false, ◌&&◌, cond, eqb, List, [], ◌∷◌, ◌++◌, length, take, drop, get_or, refl, sym, ◌∙◌, ap, arith}
use Rattle.std.specs.Cmp.Lexicographic.{pointwise}
use Rattle.std.specs.List.{sum_by, insert, remove}
use Rattle.std.proofs.lemmas.Bool.{eqb-true}
use Rattle.rv_terms.proofs.Products.{and_first, and_second}
use Rattle.std.specs.List.Sorted.{IsPermutation}
use Rattle.std.proofs.lemmas.List.{take_more, take-append-drop}
use Rattle.std.proofs.lemmas.List.Sorted.{sum_by-IsPermutation}
use Rattle.std.proofs.lemmas.List.Sums.{sum_by-cons}
use Rattle.std.proofs.Math.Seq.{drop-cons, take-length}
use Rattle.rv_gate.specs.Gate.{xor}
use Rattle.rv_gate.proofs.Bits.{xor_assoc, xor_comm, xor_false, false_xor}
use Rattle.rv_terms.specs.Products.{value, parity}
use Rattle.rv_terms.specs.declared.product.Product.{Product}

pub parity-append : (a b : List Product) (x v : List Bool) → parity (a ++ b) x v ≡ xor (parity a x v) (parity b x v)
parity-append [] b x v = sym (false_xor (parity b x v))
parity-append (p ∷ a) b x v =
    ap (xor (value p x v)) (parity-append a b x v) ∙ sym (xor_assoc (value p x v) (parity a x v) (parity b x v))

pub parity-push : (a : List Product) (p : Product) (x v : List Bool) → parity (a ++ p ∷ []) x v ≡ xor (parity a x v) (value p x v)
parity-push a p x v = parity-append a (p ∷ []) x v ∙ ap (xor (parity a x v)) (xor_false (value p x v))

-- the first products, and one more
pub parity-next : (a : List Product) (i : ℕ) (d : Product) (x v : List Bool) → i < length a
    → parity (take (i + 1) a) x v ≡ xor (parity (take i a) x v) (value (get_or a i d) x v)
parity-next a i d x v lt = ap (λ t. parity t x v) (take_more a i d lt) ∙ parity-push (take i a) (get_or a i d) x v

pub parity-insert : (a : List Product) (i : ℕ) (p : Product) (x v : List Bool)
    → parity (insert a i p) x v ≡ xor (parity a x v) (value p x v)
parity-insert a i p x v =
    let f = parity (take i a) x v in
    let r = parity (drop i a) x v in
    parity-append (take i a) (p ∷ drop i a) x v
    ∙ ap (xor f) (xor_comm (value p x v) r)
    ∙ sym (xor_assoc f r (value p x v))
    ∙ ap (λ t. xor t (value p x v)) (sym (parity-append (take i a) (drop i a) x v) ∙ ap (λ t. parity t x v) (take-append-drop i a))

back : (t p : Bool) → t ≡ xor (xor t p) p
back t p = grind arith

gone : (f p r : Bool) → xor f r ≡ xor (xor f (xor p r)) p
gone f p r = grind arith

pub parity-remove : (a : List Product) (i : ℕ) (d : Product) (x v : List Bool) → i < length a
    → parity (remove a i) x v ≡ xor (parity a x v) (value (get_or a i d) x v)
parity-remove a i d x v lt =
    let f = parity (take i a) x v in
    let r = parity (drop (suc i) a) x v in
    let p = value (get_or a i d) x v in
    let whole : parity a x v ≡ xor f (xor p r) =
    ap (λ t. parity t x v) (sym (take-append-drop i a)) ∙ parity-append (take i a) (drop i a) x v
    ∙ ap (λ t. xor f (parity t x v)) (drop-cons a i d lt) in
    parity-append (take i a) (drop (suc i) a) x v ∙ gone f p r ∙ ap (λ t. xor t p) (sym whole)

abbrev flag : Bool → ℕ
flag b = cond b 1 0

flag_next : (a b : Bool) (n : ℕ) → flag b ≡ n % 2 → flag (xor a b) ≡ (flag a + n) % 2
flag_next true true n e = omega (arith, e)
flag_next true false n e = omega (arith, e)
flag_next false true n e = omega (arith, e)
flag_next false false n e = omega (arith, e)

flags : (a : List Product) (x v : List Bool) → flag (parity a x v) ≡ sum_by (λ p. flag (value p x v)) a % 2
flags [] x v = omega arith
flags (p ∷ a) x v =
    flag_next (value p x v) (parity a x v) _ (flags a x v)
    ∙ ap (λ n. n % 2) (sym (sum_by-cons (λ (q : Product). flag (value q x v)) p a))

same_flags : (a b : Bool) → flag a ≡ flag b → a ≡ b
same_flags true true e = refl
same_flags true false e = absurd (omega (arith, e))
same_flags false true e = absurd (omega (arith, e))
same_flags false false e = refl

-- the order doesn't matter
pub parity-permuted : (a b : List Product) (x v : List Bool) → IsPermutation a b → parity b x v ≡ parity a x v
parity-permuted a b x v moved =
    same_flags _ _ (flags b x v ∙ ap (λ n. n % 2) (sum_by-IsPermutation (λ (p : Product). flag (value p x v)) a b moved)
    ∙ sym (flags a x v))

-- ---- loops

-- the first products are added to others, each times one more
pub scaled_none : (old products : List Product) (scale : Product) (x v : List Bool)
    → parity old x v ≡ xor (parity old x v) (value scale x v && parity (take 0 products) x v)
scaled_none old products scale x v = grind arith

scaled_step : (o s t p : Bool) → xor (xor o (s && t)) (s && p) ≡ xor o (s && xor t p)
scaled_step o s t p = grind arith

pub scaled_more : (old products made : List Product) (scale next d : Product) (i : ℕ) (x v : List Bool) → i < length products
    → value next x v ≡ (value scale x v && value (get_or products i d) x v)
    → parity made x v ≡ xor (parity old x v) (value scale x v && parity (take i products) x v)
    → parity (made ++ next ∷ []) x v ≡ xor (parity old x v) (value scale x v && parity (take (i + 1) products) x v)
scaled_more old products made scale next d i x v lt is so_far =
    let s = value scale x v in
    let p = value (get_or products i d) x v in
    parity-push made next x v
    ∙ ap (λ t. xor t (value next x v)) so_far
    ∙ ap (xor (xor (parity old x v) (s && parity (take i products) x v))) is
    ∙ scaled_step (parity old x v) s (parity (take i products) x v) p
    ∙ ap (λ t. xor (parity old x v) (s && t)) (sym (parity-next products i d x v lt))

-- the last product goes
pub toggle_back : (a b : List Product) (p last : Product) (n : ℕ) (x v : List Bool) → n + 1 ≡ length a
    → last ≡ get_or a n last → last ≡ p → b ≡ take n a → parity b x v ≡ xor (parity a x v) (value p x v)
toggle_back a b p last n x v count here same is =
    let e : parity a x v ≡ xor (parity (take n a) x v) (value (get_or a n last) x v) =
    ap (λ t. parity t x v) (sym (take-length a) ∙ ap (λ k. take k a) (sym count)) ∙ parity-next a n last x v (omega arith) in
    let q : get_or a n last ≡ p = sym here ∙ same in
    let f : parity a x v ≡ xor (parity (take n a) x v) (value p x v) = e ∙ ap (λ t. xor (parity (take n a) x v) (value t x v)) q in
    ap (λ t. parity t x v) is ∙ back (parity (take n a) x v) (value p x v) ∙ ap (λ t. xor t (value p x v)) (sym f)

-- one product more goes over
pub over_more : (products : List Product) (d : Product) (i : ℕ) (x v : List Bool) (made so_far : Bool) → i < length products
    → made ≡ xor so_far (value (get_or products i d) x v) → so_far ≡ parity (take i products) x v
    → made ≡ parity (take (i + 1) products) x v
over_more products d i x v made so_far lt is before =
    is ∙ ap (λ t. xor t (value (get_or products i d) x v)) before ∙ sym (parity-next products i d x v lt)

pub over_all : (products : List Product) (n : ℕ) (x v : List Bool) (made : Bool) → length products ≤ n → n ≤ length products
    → made ≡ parity (take n products) x v → made ≡ parity products x v
over_all products n x v made le ge is =
    let e : n ≡ length products = omega arith in
    is ∙ ap (λ k. parity (take k products) x v) e ∙ ap (λ t. parity t x v) (take-length products)

times_step : (a p o : Bool) → xor (a && o) (p && o) ≡ (xor a p && o)
times_step a p o = grind arith

-- one product more is multiplied
pub times_more : (products : List Product) (d : Product) (i : ℕ) (x v : List Bool) (made so_far other : Bool) → i < length products
    → made ≡ xor so_far (value (get_or products i d) x v && other) → so_far ≡ (parity (take i products) x v && other)
    → made ≡ (parity (take (i + 1) products) x v && other)
times_more products d i x v made so_far other lt is before =
    is ∙ ap (λ t. xor t (value (get_or products i d) x v && other)) before
    ∙ times_step (parity (take i products) x v) (value (get_or products i d) x v) other
    ∙ ap (λ t. t && other) (sym (parity-next products i d x v lt))

-- a product that stands in the sum goes
pub remove_same : (a b : List Product) (p found : Product) (i : ℕ) (x v : List Bool) → i < length a → found ≡ get_or a i found
    → found ≡ p → b ≡ remove a i → parity b x v ≡ xor (parity a x v) (value p x v)
remove_same a b p found i x v lt here same is =
    ap (λ t. parity t x v) is ∙ parity-remove a i found x v lt
    ∙ ap (λ t. xor (parity a x v) (value t x v)) (sym here ∙ same)

-- products that are compared one by one
abbrev pub same_product : Product → Product → Bool
same_product p q = eqb p.lines q.lines && eqb p.paths q.paths

pub same_products : (a b : List Product) → pointwise same_product a b ≡ true → a ≡ b
same_products [] [] same = refl
same_products [] (q ∷ b) same = absurd cc
same_products (p ∷ a) [] same = absurd cc
same_products (p ∷ a) (q ∷ b) same =
    let heads = and_first _ _ same in
    let l : p.lines ≡ q.lines = eqb-true _ _ (and_first _ _ heads) in
    let h : p.paths ≡ q.paths = eqb-true _ _ (and_second _ _ heads) in
    ap (λ (t : ℕ). record { lines = t; paths = p.paths } ∷ a) l
    ∙ ap (λ (t : ℕ). record { lines = q.lines; paths = t } ∷ a) h
    ∙ ap (λ t. q ∷ t) (same_products a b (and_second _ _ same))
