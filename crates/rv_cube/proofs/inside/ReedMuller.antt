-- The Reed-Muller form has the value of its table at every word, and the fast transform gives it.
use Rattle.rv_gate.proofs.LineSets.{bit_xor-back}
use Rattle.std.proofs.Common.{◌≡◌, ℕ, zero, suc, ◌+◌, ◌-◌, ◌^◌, ◌<◌, ◌≤◌, Bool, true, false, not, cond, ◌&&◌, ◌||◌, eqb, List, [], ◌∷◌, ◌++◌, length, get_or, take, drop, refl, sym, ◌∙◌, ap, arith, eq-eqb, ne_eqb, length-append, length-take, length-drop, ext_get_or, append-nil, subst}
use Rattle.std.specs.Prelude.{bit_xor, All, map}
use Rattle.std.specs.List.{fold, range_with_len}
use Rattle.std.proofs.lemmas.Nat.Bits.{bit_at_above}
use Rattle.std.proofs.lemmas.List.{get_or-take, get_or-drop, get_or_append_left, get_or_default, take-append-drop}
use Rattle.std.proofs.lemmas.List.FromFn.{filter_of_map_range_with_len_more}
use Rattle.std.proofs.lemmas.List.Elements.{All-append, All-drop, All-nil, All-take}
use Rattle.std.proofs.lemmas.Nat.{xor_lt}
use Rattle.std.proofs.Math.Seq.{get_or-append_right}
use Rattle.std.proofs.Math.Nat.{pow-suc}
use Rattle.rv_gate.specs.Word.{has, bit_of, number_of, ones_of, word_of}
use Rattle.rv_gate.proofs.inside.Ones.{has-ones_of, ones_of-lt}
use Rattle.rv_gate.specs.inside.laws.WordLaws.{length-word_of, number_of-lt, number_of-word_of_small, word_of-number_of}
use Rattle.rv_gate.specs.Gate.{all_below}
use Rattle.rv_pla.specs.Cube.{symbol_of, agrees, matches, IsCube}
use Rattle.rv_cube.specs.Esop.{esop_value, terms_of, IsTerm}
use Rattle.rv_cube.specs.ReedMuller.{is_within, value_within, outputs_within, set_cube, reed_muller}
use Rattle.rv_cube.specs.inside.Transform.{xor_of, xor_each, transformed, set_cubes}
use Rattle.rv_pla.specs.declared.cube.Cube.{Cube}
use Rattle.rv_gate.proofs.AllBelow.{all_below-same}
use Rattle.rv_cube.proofs.Sums.{share-outs, xor_pairs}
use Rattle.rv_cube.proofs.Terms.{terms_valid, value-terms_of}
use Rattle.std.specs.Int.Bits.{xor_assoc, xor_self, xor_zero_l, xor_zero_r}

-- ---- sums over numbers

xor_of-same : (f g : ℕ → ℕ) (k j m : ℕ) → ((i : ℕ) → i < m → f (k + i) ≡ g (j + i)) → xor_of f k m ≡ xor_of g j m
unfolding xor_of
xor_of-same f g k j zero h = refl
xor_of-same f g k j (suc m) h =
    let k0 : k + 0 ≡ k = omega arith in
    let j0 : j + 0 ≡ j = omega arith in
    let e : f k ≡ g j = ap f (sym k0) ∙ h 0 (omega arith) ∙ ap g j0 in
    let r : xor_of f (k + 1) m ≡ xor_of g (j + 1) m =
    xor_of-same f g (k + 1) (j + 1) m (λ i l.
    let p : k + 1 + i ≡ k + suc i = omega arith in
    let q : j + suc i ≡ j + 1 + i = omega arith in
    ap f p ∙ h (suc i) (omega arith) ∙ ap g q) in
    cc

xor_of-add : (g : ℕ → ℕ) (k a b : ℕ) → xor_of g k (a + b) ≡ bit_xor (xor_of g k a) (xor_of g (k + a) b)
unfolding xor_of
xor_of-add g k zero b =
    let p : 0 + b ≡ b = omega arith in
    let q : k ≡ k + 0 = omega arith in
    ap (xor_of g k) p ∙ ap (λ x. xor_of g x b) q ∙ sym (xor_zero_l _)
xor_of-add g k (suc a) b =
    let p : suc a + b ≡ suc (a + b) = omega arith in
    let q : k + 1 + a ≡ k + suc a = omega arith in
    ap (xor_of g k) p ∙ ap (bit_xor (g k)) (xor_of-add g (k + 1) a b ∙ ap (λ x. bit_xor (xor_of g (k + 1) a) (xor_of g x b)) q)
    ∙ sym (xor_assoc (g k) (xor_of g (k + 1) a) (xor_of g (k + suc a) b))

xor_of-zero : (g : ℕ → ℕ) (k m : ℕ) → ((i : ℕ) → i < m → g (k + i) ≡ 0) → xor_of g k m ≡ 0
unfolding xor_of
xor_of-zero g k zero h = refl
xor_of-zero g k (suc m) h =
    let k0 : k + 0 ≡ k = omega arith in
    let e : g k ≡ 0 = ap g (sym k0) ∙ h 0 (omega arith) in
    let r : xor_of g (k + 1) m ≡ 0 = xor_of-zero g (k + 1) m (λ i l. let p : k + 1 + i ≡ k + suc i = omega arith in ap g p ∙ h (suc i) (omega arith)) in
    ap (λ x. bit_xor x (xor_of g (k + 1) m)) e ∙ ap (bit_xor 0) r ∙ xor_self 0

-- ---- words of sets

all_below-first : (p : ℕ → Bool) (n : ℕ) → all_below p (suc n) ≡ (p 0 && all_below (λ i. p (suc i)) n)
all_below-first p zero = refl
all_below-first p (suc n) = ap (λ x. p (suc n) && x) (all_below-first p n) ∙ and-swap3 (p (suc n)) (p 0) (all_below (λ i. p (suc i)) n)
  where
    and-swap3 : (a b c : Bool) → (a && (b && c)) ≡ (b && (a && c))
    and-swap3 true b c = refl
    and-swap3 false true c = refl
    and-swap3 false false c = refl

agrees_set : (a b : Bool) → agrees (symbol_of a a) b ≡ (not a || b)
agrees_set a b = grind arith

is_within-all : (set word : List Bool) → length set ≡ length word → all_below (λ i. not (bit_of set i) || bit_of word i) (length word) ≡ is_within set word
unfolding is_within
is_within-all [] [] h = refl
is_within-all (a ∷ set) (b ∷ word) h =
    all_below-first (λ i. not (bit_of (a ∷ set) i) || bit_of (b ∷ word) i) (length word)
    ∙ ap (λ x. (not a || b) && x) (is_within-all set word (omega (arith, h)))
is_within-all o v h = absurd (omega (arith, h))

matches-set : (set word : List Bool) (outs : ℕ) → length set ≡ length word → matches (set_cube set outs) word ≡ is_within set word
unfolding matches
matches-set set word outs h =
    all_below-same _ _ (length word) (λ i l. ap (λ t. agrees (symbol_of t t) (bit_of word i)) (has-ones_of set i) ∙ agrees_set (bit_of set i) (bit_of word i))
    ∙ is_within-all set word h

-- ---- the value of cubes of sets as a sum over the sets

value-set_cubes : (n : ℕ) (outs : List ℕ) (word : List Bool) (k m : ℕ) → length word ≡ n
    → esop_value (map (λ s. set_cube (word_of n s) (get_or outs s 0)) (range_with_len k m)) word ≡ xor_of (value_within n outs word) k m
unfolding xor_of esop_value
value-set_cubes n outs word k zero h = refl
value-set_cubes n outs word k (suc m) h =
    ap (λ t. bit_xor (cond t (get_or outs k 0) 0) (esop_value (map (λ s. set_cube (word_of n s) (get_or outs s 0)) (range_with_len (k + 1) m)) word))
    (matches-set (word_of n k) word (get_or outs k 0) (length-word_of n k ∙ sym h))
    ∙ ap (bit_xor (value_within n outs word k)) (value-set_cubes n outs word (k + 1) m h)

-- ---- the halves

pub length-xor_each : (xs ys : List ℕ) → length xs ≡ length ys → length (xor_each xs ys) ≡ length ys
unfolding xor_each
length-xor_each [] ys h = refl
length-xor_each (x ∷ xs) [] h = absurd (omega (arith, h))
length-xor_each (x ∷ xs) (y ∷ ys) h = ap suc (length-xor_each xs ys (omega (arith, h)))

pub get_or-xor_each : (xs ys : List ℕ) (i : ℕ) → length xs ≡ length ys → i < length ys → get_or (xor_each xs ys) i 0 ≡ bit_xor (get_or xs i 0) (get_or ys i 0)
unfolding xor_each
get_or-xor_each [] ys i h l = absurd (omega (arith, h))
get_or-xor_each (x ∷ xs) [] i h l = absurd (omega (arith, l))
get_or-xor_each (x ∷ xs) (y ∷ ys) zero h l = refl
get_or-xor_each (x ∷ xs) (y ∷ ys) (suc i) h l = get_or-xor_each xs ys i (omega (arith, h)) (omega (arith, l))

pub length-low : (n : ℕ) (table : List ℕ) → length table ≡ 2 ^ suc n → length (take (2 ^ n) table) ≡ 2 ^ n
length-low n table h = let p = pow-suc 2 n in omega (arith, length-take (2 ^ n) table)

pub length-high : (n : ℕ) (table : List ℕ) → length table ≡ 2 ^ suc n → length (drop (2 ^ n) table) ≡ 2 ^ n
length-high n table h = let p = pow-suc 2 n in omega (arith, length-drop (2 ^ n) table)

length-mended : (n : ℕ) (table : List ℕ) → length table ≡ 2 ^ suc n → length (xor_each (take (2 ^ n) table) (drop (2 ^ n) table)) ≡ 2 ^ n
length-mended n table h =
    length-xor_each (take (2 ^ n) table) (drop (2 ^ n) table) (length-low n table h ∙ sym (length-high n table h)) ∙ length-high n table h

pub length-transformed : (n : ℕ) (table : List ℕ) → length table ≡ 2 ^ n → length (transformed n table) ≡ 2 ^ n
unfolding transformed
length-transformed zero table h = h
length-transformed (suc n) table h = let i0 = length-transformed n in grind (arith, i0, length-low, length-mended, pow-suc, length-append)

-- a set of the lower half, and one of the upper half
word_of-low : (n i : ℕ) → i < 2 ^ n → word_of (suc n) i ≡ false ∷ word_of n i
unfolding word_of
word_of-low n i h = let e : has i n ≡ false = ne_eqb _ 1 (λ o. let z = bit_at_above i n n h (omega arith) in omega arith) in ap (λ b. b ∷ word_of n i) e

word_of-high : (n i : ℕ) → i < 2 ^ n → word_of (suc n) (2 ^ n + i) ≡ true ∷ word_of n i
unfolding number_of
word_of-high n i h =
    let word : List Bool = true ∷ word_of n i in
    let len : length (word_of n i) ≡ n = length-word_of n i in
    let number : number_of word ≡ 2 ^ n + i = ap (λ k. 2 ^ k + number_of (word_of n i)) len ∙ ap (λ k. 2 ^ n + k) (number_of-word_of_small n i h) in
    ap (word_of (suc n)) (sym number) ∙ ap (λ k. word_of (suc k) (number_of word)) (sym len) ∙ word_of-number_of word

within_low : (n : ℕ) (xs ys : List ℕ) (b : Bool) (word : List Bool) (i : ℕ) → length xs ≡ 2 ^ n → i < 2 ^ n
    → value_within (suc n) (xs ++ ys) (b ∷ word) i ≡ value_within n xs word i
unfolding is_within
within_low n xs ys b word i h l = grind (arith, is_within, word_of-low, word_of, get_or_append_left)

within_high : (n : ℕ) (xs ys : List ℕ) (b : Bool) (word : List Bool) (i : ℕ) → length xs ≡ 2 ^ n → i < 2 ^ n
    → value_within (suc n) (xs ++ ys) (b ∷ word) (2 ^ n + i) ≡ cond b (value_within n ys word i) 0
unfolding is_within
within_high n xs ys b word i h l = grind (arith, is_within, word_of-high, word_of, get_or-append_right)

-- the sum over all sets splits into the halves
xor_of-halves : (n : ℕ) (xs ys : List ℕ) (b : Bool) (word : List Bool) → length xs ≡ 2 ^ n
    → xor_of (value_within (suc n) (xs ++ ys) (b ∷ word)) 0 (2 ^ suc n)
    ≡ bit_xor (xor_of (value_within n xs word) 0 (2 ^ n)) (cond b (xor_of (value_within n ys word) 0 (2 ^ n)) 0)
xor_of-halves n xs ys b word h =
    let g : ℕ → ℕ = value_within (suc n) (xs ++ ys) (b ∷ word) in
    let m : ℕ = 2 ^ n in
    let p : 2 ^ suc n ≡ m + m = omega (arith, pow-suc 2 n) in
    ap (xor_of g 0) p ∙ xor_of-add g 0 m m
    ∙ ap (λ x. bit_xor x (xor_of g (0 + m) m)) (xor_of-same g (value_within n xs word) 0 0 m (λ i l. let z : 0 + i ≡ i = omega arith in rw z (within_low n xs ys b word i h l)))
    ∙ ap (bit_xor (xor_of (value_within n xs word) 0 m)) (upper b refl)
  where
    upper : (c : Bool) → b ≡ c → xor_of (value_within (suc n) (xs ++ ys) (b ∷ word)) (0 + 2 ^ n) (2 ^ n) ≡ cond b (xor_of (value_within n ys word) 0 (2 ^ n)) 0
    upper true e =
        let z : 0 + 2 ^ n ≡ 2 ^ n = omega arith in
        rw (z, e)
        (xor_of-same (value_within (suc n) (xs ++ ys) (true ∷ word)) (value_within n ys word) (2 ^ n) 0 (2 ^ n)
        (λ i l. let q : 0 + i ≡ i = omega arith in rw q (within_high n xs ys true word i h l)))
    upper false e =
        let z : 0 + 2 ^ n ≡ 2 ^ n = omega arith in
        rw (z, e)
        (xor_of-zero (value_within (suc n) (xs ++ ys) (false ∷ word)) (2 ^ n) (2 ^ n) (λ i l. within_high n xs ys false word i h l))

xor_of-one : (g : ℕ → ℕ) → xor_of g 0 1 ≡ g 0
unfolding xor_of
xor_of-one g = xor_zero_r (g 0)

within_none : (t : List ℕ) → xor_of (value_within 0 t []) 0 (2 ^ 0) ≡ get_or t 0 0
unfolding word_of is_within
within_none t = xor_of-one (value_within 0 t [])

pub value-transformed : (n : ℕ) (table : List ℕ) (word : List Bool) → length table ≡ 2 ^ n → length word ≡ n
    → xor_of (value_within n (transformed n table) word) 0 (2 ^ n) ≡ get_or table (number_of word) 0
unfolding transformed number_of
value-transformed zero table [] h l = within_none table
value-transformed (suc n) table (false ∷ word) h l =
    let m : ℕ = 2 ^ n in
    let k : ℕ = number_of word in
    let w : length word ≡ n = omega (arith, l) in
    let small : k < m = let s = number_of-lt word in let e : 2 ^ length word ≡ 2 ^ n = ap (λ x. 2 ^ x) w in omega arith in
    let low : List ℕ = take m table in
    let mended : List ℕ = xor_each (take m table) (drop m table) in
    let z : 0 + k ≡ k = omega arith in
    xor_of-halves n (transformed n low) (transformed n mended) false word (length-transformed n low (length-low n table h))
    ∙ xor_zero_r _ ∙ value-transformed n low word (length-low n table h) w ∙ get_or-take m table k 0 small ∙ ap (λ i. get_or table i 0) (sym z)
value-transformed (suc n) table (true ∷ word) h l =
    let m : ℕ = 2 ^ n in
    let k : ℕ = number_of word in
    let w : length word ≡ n = omega (arith, l) in
    let e : 2 ^ length word ≡ 2 ^ n = ap (λ x. 2 ^ x) w in
    let small : k < m = let s = number_of-lt word in omega arith in
    let low : List ℕ = take m table in
    let high : List ℕ = drop m table in
    let ll = length-low n table h in
    let lh = length-high n table h in
    xor_of-halves n (transformed n low) (transformed n (xor_each low high)) true word (length-transformed n low ll)
    ∙ ap (λ x. bit_xor x (xor_of (value_within n (transformed n (xor_each low high)) word) 0 m)) (value-transformed n low word ll w)
    ∙ ap (bit_xor (get_or low k 0)) (value-transformed n (xor_each low high) word (length-mended n table h) w ∙ get_or-xor_each low high k (ll ∙ sym lh) (omega arith))
    ∙ bit_xor-back (get_or low k 0) (get_or high k 0)
    ∙ get_or-drop m table k 0
    ∙ ap (λ x. get_or table (x + k) 0) (sym e)
value-transformed o table v h l = absurd (omega (arith, l))

-- ---- the transform gives the outputs of each set

xor_of-xor : (f g : ℕ → ℕ) (k m : ℕ) → xor_of (λ i. bit_xor (f i) (g i)) k m ≡ bit_xor (xor_of f k m) (xor_of g k m)
unfolding xor_of
xor_of-xor f g k zero = sym (xor_self 0)
xor_of-xor f g k (suc m) =
    ap (bit_xor (bit_xor (f k) (g k))) (xor_of-xor f g (k + 1) m) ∙ xor_pairs (f k) (g k) (xor_of f (k + 1) m) (xor_of g (k + 1) m)

abbrev xor_within : ℕ → List ℕ → List Bool → ℕ
xor_within n table set = xor_of (value_within n table set) 0 (2 ^ n)

fold-xor_of : (f : ℕ → ℕ) (a k m : ℕ) → fold bit_xor a (map f (range_with_len k m)) ≡ bit_xor a (xor_of f k m)
unfolding xor_of
fold-xor_of f a k zero = sym (xor_zero_r a)
fold-xor_of f a k (suc m) = fold-xor_of f (bit_xor a (f k)) (k + 1) m ∙ xor_assoc a (f k) (xor_of f (k + 1) m)

outputs_within-xor_of : (n : ℕ) (table : List ℕ) (set : List Bool) → outputs_within n table set ≡ xor_within n table set
outputs_within-xor_of n table set = fold-xor_of (value_within n table set) 0 0 (2 ^ n) ∙ xor_zero_l (xor_within n table set)

-- the outputs of a set of the whole, by those of the halves
outputs-halves : (n : ℕ) (table : List ℕ) (b : Bool) (set : List Bool) → length table ≡ 2 ^ suc n
    → xor_within (suc n) table (b ∷ set) ≡ bit_xor (xor_within n (take (2 ^ n) table) set) (cond b (xor_within n (drop (2 ^ n) table) set) 0)
outputs-halves n table b set h =
    ap (λ t. xor_within (suc n) t (b ∷ set)) (sym (take-append-drop (2 ^ n) table))
    ∙ xor_of-halves n (take (2 ^ n) table) (drop (2 ^ n) table) b set (length-low n table h)

outputs-xor_each : (n : ℕ) (xs ys : List ℕ) (set : List Bool) → length xs ≡ 2 ^ n → length ys ≡ 2 ^ n
    → xor_within n (xor_each xs ys) set ≡ bit_xor (xor_within n xs set) (xor_within n ys set)
outputs-xor_each n xs ys set lx ly =
    xor_of-same (value_within n (xor_each xs ys) set) (λ i. bit_xor (value_within n xs set i) (value_within n ys set i)) 0 0 (2 ^ n)
    (λ i l.
    let z : 0 + i ≡ i = omega arith in
    rw z (ap (λ y. cond (is_within (word_of n i) set) y 0) (get_or-xor_each xs ys i (lx ∙ sym ly) (omega arith)) ∙ share-outs (is_within (word_of n i) set) (get_or xs i 0) (get_or ys i 0)))
    ∙ xor_of-xor (value_within n xs set) (value_within n ys set) 0 (2 ^ n)

transformed_at : (n : ℕ) (table : List ℕ) (set : List Bool) → length table ≡ 2 ^ n → length set ≡ n
    → get_or (transformed n table) (number_of set) 0 ≡ xor_within n table set
unfolding transformed number_of
transformed_at zero table [] h l = sym (within_none table)
transformed_at (suc n) table (false ∷ set) h l =
    let w : length set ≡ n = omega (arith, l) in
    let k : ℕ = number_of set in
    let z : 0 + k ≡ k = omega arith in
    let low : List ℕ = take (2 ^ n) table in
    let high : List ℕ = xor_each (take (2 ^ n) table) (drop (2 ^ n) table) in
    let len = length-transformed n low (length-low n table h) in
    let small : k < 2 ^ n = let s = number_of-lt set in let e : 2 ^ length set ≡ 2 ^ n = ap (λ x. 2 ^ x) w in omega arith in
    ap (λ i. get_or (transformed n low ++ transformed n high) i 0) z
    ∙ get_or_append_left (transformed n low) (transformed n high) 0 k (omega arith)
    ∙ transformed_at n low set (length-low n table h) w
    ∙ sym (outputs-halves n table false set h ∙ xor_zero_r _)
transformed_at (suc n) table (true ∷ set) h l =
    let w : length set ≡ n = omega (arith, l) in
    let k : ℕ = number_of set in
    let e : 2 ^ length set ≡ 2 ^ n = ap (λ x. 2 ^ x) w in
    let low : List ℕ = take (2 ^ n) table in
    let high : List ℕ = drop (2 ^ n) table in
    let len = length-transformed n low (length-low n table h) in
    let p : 2 ^ n + k - length (transformed n low) ≡ k = omega arith in
    ap (λ x. get_or (transformed n low ++ transformed n (xor_each low high)) (x + k) 0) e
    ∙ get_or-append_right (transformed n low) (transformed n (xor_each low high)) (2 ^ n + k) 0 (omega arith)
    ∙ ap (λ i. get_or (transformed n (xor_each low high)) i 0) p
    ∙ transformed_at n (xor_each low high) set (length-mended n table h) w
    ∙ outputs-xor_each n low high set (length-low n table h) (length-high n table h)
    ∙ sym (outputs-halves n table true set h)
transformed_at o table v h l = absurd (omega (arith, l))

map-range_same : (f g : ℕ → Cube) (k m : ℕ) → ((i : ℕ) → k ≤ i → i < k + m → f i ≡ g i) → map f (range_with_len k m) ≡ map g (range_with_len k m)
map-range_same f g k zero h = refl
map-range_same f g k (suc m) h = let i0 = map-range_same f g (k + 1) m in grind (arith, i0)

-- the form is what the transform gives
pub reed_muller-transformed : (n : ℕ) (table : List ℕ) → length table ≡ 2 ^ n → terms_of (set_cubes n (transformed n table) (2 ^ n)) ≡ reed_muller n table
reed_muller-transformed n table h =
    ap terms_of
    (map-range_same (λ s. set_cube (word_of n s) (get_or (transformed n table) s 0)) (λ s. set_cube (word_of n s) (outputs_within n table (word_of n s))) 0 (2 ^ n)
    (λ s l u.
    let small : s < 2 ^ n = omega arith in
    ap (set_cube (word_of n s))
    (ap (λ i. get_or (transformed n table) i 0) (sym (number_of-word_of_small n s small))
    ∙ transformed_at n table (word_of n s) h (length-word_of n s) ∙ sym (outputs_within-xor_of n table (word_of n s)))))

-- the form has the value of the table
pub value-reed_muller : (n : ℕ) (table : List ℕ) (word : List Bool) → length table ≡ 2 ^ n → length word ≡ n
    → esop_value (reed_muller n table) word ≡ get_or table (number_of word) 0
value-reed_muller n table word h l =
    ap (λ cubes. esop_value cubes word) (sym (reed_muller-transformed n table h))
    ∙ value-terms_of (set_cubes n (transformed n table) (2 ^ n)) word
    ∙ value-set_cubes n (transformed n table) word 0 (2 ^ n) l
    ∙ value-transformed n table word h l

-- ---- the steps of the code

pub transformed_none : (n : ℕ) (table : List ℕ) → n ≡ 0 → table ≡ transformed n table
unfolding transformed
transformed_none n table e = rw e refl

pub transformed_halves : (n m : ℕ) (table a b : List ℕ) → n ≡ suc m
    → a ≡ transformed m (take (2 ^ m) table) → b ≡ transformed m (xor_each (take (2 ^ m) table) (drop (2 ^ m) table))
    → a ++ b ≡ transformed n table
unfolding transformed
transformed_halves n m table a b e ha hb = rw (e, ha, hb) refl

pub xor_each_from : (xs ys zs : List ℕ) → length xs ≡ length ys → length zs ≡ length ys
    → ((k : ℕ) → k < length ys → get_or zs k 0 ≡ bit_xor (get_or xs k 0) (get_or ys k 0)) → zs ≡ xor_each xs ys
xor_each_from xs ys zs e f h =
    ext_get_or 0 zs (xor_each xs ys) (f ∙ sym (length-xor_each xs ys e))
    (λ k l. let lt : k < length ys = omega arith in h k lt ∙ sym (get_or-xor_each xs ys k e lt))

-- ---- the loop over the sets

-- the cubes of the sets before s
pub record IsFilling (n : ℕ) (outs : List ℕ) (s : ℕ) (cubes : List Cube) : Type 0 where
  pub so_far : cubes ≡ terms_of (set_cubes n outs s)
  pub few : length cubes ≤ s

set_cubes-more : (n : ℕ) (outs : List ℕ) (s : ℕ) (t : Bool) → eqb (get_or outs s 0) 0 ≡ t
    → terms_of (set_cubes n outs (s + 1)) ≡ terms_of (set_cubes n outs s) ++ cond (not t) (set_cube (word_of n s) (get_or outs s 0) ∷ []) []
set_cubes-more n outs s t e =
    filter_of_map_range_with_len_more (λ (cube : Cube). not (eqb cube.outs 0)) (λ s. set_cube (word_of n s) (get_or outs s 0)) 0 s s (omega arith)
    ∙ ap (λ b. terms_of (set_cubes n outs s) ++ cond (not b) (set_cube (word_of n s) (get_or outs s 0) ∷ []) []) e

pub filling_some : (n : ℕ) (outs : List ℕ) (s : ℕ) (cubes : List Cube) (set : ℕ) → IsFilling n outs s cubes
    → (get_or outs s 0 ≡ 0 → ⊥) → set ≡ ones_of (word_of n s)
    → IsFilling n outs (s + 1) (cubes ++ record { care = set; want = set; outs = get_or outs s 0 } ∷ [])
filling_some n outs s cubes set f nz is = record {
  so_far = ap (λ w. cubes ++ record { care = w; want = w; outs = get_or outs s 0 } ∷ []) is
      ∙ ap (λ l. l ++ set_cube (word_of n s) (get_or outs s 0) ∷ []) f.so_far
      ∙ sym (set_cubes-more n outs s false (ne_eqb _ 0 nz));
  few = let k = f.few in omega (arith, length-append cubes (record { care = set; want = set; outs = get_or outs s 0 } ∷ []));
}

pub filling_none : (n : ℕ) (outs : List ℕ) (s : ℕ) (cubes : List Cube) → IsFilling n outs s cubes → get_or outs s 0 ≡ 0
    → IsFilling n outs (s + 1) cubes
filling_none n outs s cubes f z = record {
  so_far = f.so_far ∙ sym (append-nil (terms_of (set_cubes n outs s))) ∙ sym (set_cubes-more n outs s true (eq-eqb _ 0 z));
  few = let k = f.few in omega arith;
}

All-map_range : (P : Cube → Type 0) (f : ℕ → Cube) (k m : ℕ) → ((i : ℕ) → k ≤ i → i < k + m → P (f i)) → All P (map f (range_with_len k m))
All-map_range P f k zero h = All-nil P
All-map_range P f k (suc m) h = let i0 = All-map_range P f (k + 1) m in grind (arith, i0)

-- the cubes of sets are cubes
pub set_cubes_valid : (n outputs : ℕ) (outs : List ℕ) (m : ℕ) → m ≤ length outs → All (λ y. y < 2 ^ outputs) outs → All (IsTerm n outputs) (terms_of (set_cubes n outs m))
set_cubes_valid n outputs outs m few all =
    terms_valid n outputs (set_cubes n outs m)
    (All-map_range (IsCube n outputs) (λ s. set_cube (word_of n s) (get_or outs s 0)) 0 m
    (λ s l u.
    let lt = ones_of-lt (word_of n s) in
    let small : ones_of (word_of n s) < 2 ^ n = let e : 2 ^ length (word_of n s) ≡ 2 ^ n = ap (λ k. 2 ^ k) (length-word_of n s) in omega arith in
    record { asked = small; wanted = λ line on. on; carried = all s 0 (omega arith) }))

-- ---- no new outputs

small_each : (o : ℕ) (xs ys : List ℕ) → length xs ≡ length ys → All (λ y. y < 2 ^ o) xs → All (λ y. y < 2 ^ o) ys → All (λ y. y < 2 ^ o) (xor_each xs ys)
small_each o xs ys e hx hy k d l =
    let lt : k < length ys = omega (arith, length-xor_each xs ys e) in
    let lx : k < length xs = omega arith in
    let one : get_or (xor_each xs ys) k d ≡ get_or (xor_each xs ys) k 0 = get_or_default (xor_each xs ys) k d 0 l in
    let Q : ℕ → Type 0 = λ y. y < 2 ^ o in
    subst Q (sym (one ∙ get_or-xor_each xs ys k e lt)) (xor_lt o _ _ (hx k 0 lx) (hy k 0 lt))

pub small_transformed : (n o : ℕ) (table : List ℕ) → length table ≡ 2 ^ n → All (λ y. y < 2 ^ o) table → All (λ y. y < 2 ^ o) (transformed n table)
unfolding transformed
small_transformed zero o table h all = all
small_transformed (suc n) o table h all =
    let low = All-take (λ y. y < 2 ^ o) (2 ^ n) table all in
    let high = All-drop (λ y. y < 2 ^ o) (2 ^ n) table all in
    All-append (λ y. y < 2 ^ o) _ _
    (small_transformed n o (take (2 ^ n) table) (length-low n table h) low)
    (small_transformed n o (xor_each (take (2 ^ n) table) (drop (2 ^ n) table)) (length-mended n table h)
    (small_each o (take (2 ^ n) table) (drop (2 ^ n) table) (length-low n table h ∙ sym (length-high n table h)) low high))

-- what the list of a table is proved by
pub ruleset listed = (small_transformed, reed_muller-transformed, value-reed_muller)

-- cubes that are listed so far
pub ruleset filling = (filling_some, filling_none, set_cubes_valid)
