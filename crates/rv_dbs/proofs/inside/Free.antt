-- The Reed-Muller list of a table that doesn't depend on a bit has no cube that asks for its line, and is at most half as long as the table.
use Rattle.std.proofs.Common.{◌≡◌, ℕ, zero, suc, ◌+◌, ◌-◌, ◌*◌, ◌^◌, ◌<◌, ◌≤◌, Bool, true, false, not, cond, eqb, List, [], ◌∷◌, ◌++◌, length, get_or, take, drop, map, refl, sym, ◌∙◌, ap, inl, inr, arith, eq-eqb, ne_eqb, subst}
use Rattle.std.specs.Prelude.{bit_xor, All}
use Rattle.std.specs.List.{range_with_len}
use Rattle.std.specs.Int.Bits.{xor_self, xor_zero_r}
use Rattle.std.proofs.lemmas.Bool.{cases_lt, eqb-false, false_from_ne_true}
use Rattle.std.proofs.lemmas.List.{get_or-take, get_or-drop, get_or_append_left, get_or-append_right, get_or_default}
use Rattle.std.proofs.lemmas.List.Elements.{All-cons, All-nil}
use Rattle.std.proofs.lemmas.Nat.{pow_below, pow_pos, xor_block}
use Rattle.std.proofs.lemmas.Nat.Bits.{bit_at_above, bit_at_cat_low}
use Rattle.std.proofs.Math.Nat.{pow-suc}
use Rattle.rv_gate.specs.Word.{has, word_of, ones_of}
use Rattle.rv_gate.specs.inside.laws.WordLaws.{bit_of-word_of}
use Rattle.rv_gate.proofs.inside.Ones.{has-ones_of}
use Rattle.rv_pla.specs.Cube.{Dash, symbol, symbol_of}
use Rattle.rv_pla.specs.declared.cube.Cube.{Cube}
use Rattle.rv_cube.specs.Dashes.{IsDashed}
use Rattle.rv_cube.specs.Esop.{terms_of}
use Rattle.rv_cube.specs.ReedMuller.{set_cube, reed_muller}
use Rattle.rv_cube.specs.inside.Transform.{xor_each, transformed}
use Rattle.rv_cube.proofs.inside.ReedMuller.{length-xor_each, get_or-xor_each, length-transformed, reed_muller-transformed, small_transformed, length-low, length-high}
use Rattle.rv_dbs.specs.Walk.{other}
use Rattle.rv_dbs.proofs.Pairs.{other_within}

-- the table doesn't depend on bit k
abbrev pub IsFreeTable : ℕ → ℕ → List ℕ → Type 0
IsFreeTable n k table = (x : ℕ) → x < 2 ^ n → get_or table (other k x) 0 ≡ get_or table x 0

-- ---- how many entries are needed

needed : List ℕ → ℕ
needed [] = 0
needed (y ∷ ys) = cond (eqb y 0) 0 1 + needed ys

needed-append : (xs ys : List ℕ) → needed (xs ++ ys) ≡ needed xs + needed ys
unfolding needed
needed-append [] ys = omega arith
needed-append (x ∷ xs) ys = let r = needed-append xs ys in omega arith

needed_none : (ys : List ℕ) → ((i : ℕ) → i < length ys → get_or ys i 0 ≡ 0) → needed ys ≡ 0
unfolding needed
needed_none [] h = refl
needed_none (y ∷ ys) h =
    let z : y ≡ 0 = h 0 (omega arith) in
    let e : cond {A = ℕ} (eqb y 0) 0 1 ≡ 0 = ap (λ b. cond {A = ℕ} b 0 1) (eq-eqb y 0 z) in
    let r = needed_none ys (λ i l. h (suc i) (omega arith)) in
    omega arith

one_at_most : (b : Bool) → cond b 0 1 ≤ 1
one_at_most b = grind arith

needed_few : (ys : List ℕ) → needed ys ≤ length ys
unfolding needed
needed_few [] = omega arith
needed_few (y ∷ ys) = let r = needed_few ys in let o = one_at_most (eqb y 0) in omega arith

length-terms : (f : ℕ → Cube) (ys : List ℕ) (k m : ℕ) → m ≡ length ys → ((i : ℕ) → i < length ys → (f (k + i)).outs ≡ get_or ys i 0)
    → length (terms_of (map f (range_with_len k m))) ≡ needed ys
unfolding needed
length-terms f [] k zero l h = refl
length-terms f (y ∷ ys) k (suc m) l h =
    let k0 : k ≡ k + 0 = omega arith in
    let e : (f k).outs ≡ y = ap (λ i. (f i).outs) k0 ∙ h 0 (omega arith) in
    let r = length-terms f ys (k + 1) m (omega arith) (λ i lt. let p : k + 1 + i ≡ k + suc i = omega arith in ap (λ j. (f j).outs) p ∙ h (suc i) (omega arith)) in
    choose (eqb (f k).outs 0) (f k) (terms_of (map f (range_with_len (k + 1) m))) (needed ys) r ∙ ap (λ v. cond (eqb v 0) 0 1 + needed ys) e
  where
    choose : (b : Bool) (c : Cube) (rest : List Cube) (v : ℕ) → length rest ≡ v → length (cond (not b) (c ∷ rest) rest) ≡ cond b 0 1 + v
    choose true c rest v e = omega arith
    choose false c rest v e = omega arith
length-terms f o k v l h = absurd (omega arith)

All-terms : (P : Cube → Type 0) (f : ℕ → Cube) (k m : ℕ) → ((i : ℕ) → k ≤ i → i < k + m → eqb (f i).outs 0 ≡ false → P (f i))
    → All P (terms_of (map f (range_with_len k m)))
All-terms P f k zero h = All-nil P
All-terms P f k (suc m) h =
    choose (eqb (f k).outs 0) (terms_of (map f (range_with_len (k + 1) m))) (λ e. h k (omega arith) (omega arith) e)
    (All-terms P f (k + 1) m (λ i l u e. h i (omega arith) (omega arith) e))
  where
    choose : (b : Bool) (rest : List Cube) → (b ≡ false → P (f k)) → All P rest → All P (cond (not b) (f k ∷ rest) rest)
    choose true rest one all = all
    choose false rest one all = All-cons P (f k) rest (one refl) all

-- ---- the transform of such a table

-- no entry with bit k is needed, and at most half of the entries are
record Sparse (n k : ℕ) (ys : List ℕ) : Type 0 where
  none : (s : ℕ) → s < 2 ^ n → has s k ≡ true → get_or ys s 0 ≡ 0
  few : needed ys ≤ 2 ^ (n - 1)

top_bit : (m s : ℕ) → has s m ≡ true → 2 ^ m ≤ s
top_bit m s on = grind (arith, cases_lt, bit_at_above, ne_eqb)

sparse_top : (m : ℕ) (a b : List ℕ) → length a ≡ 2 ^ m → length b ≡ 2 ^ m → ((i : ℕ) → i < 2 ^ m → get_or b i 0 ≡ 0) → Sparse (suc m) m (a ++ b)
sparse_top m a b la lb zeros = record {
  none = λ s l on.
      let high = top_bit m s on in
      let two = pow-suc 2 m in
      get_or-append_right a b (2 ^ m) s 0 la high ∙ zeros (s - 2 ^ m) (omega arith);
  few =
      let n0 = needed_none b (λ i l. zeros i (omega arith)) in
      let f = needed_few a in
      let s : suc m - 1 ≡ m = omega arith in
      let p : 2 ^ (suc m - 1) ≡ 2 ^ m = ap (λ e. 2 ^ e) s in
      omega (arith, needed-append a b);
}

sparse_low : (m k : ℕ) (a b : List ℕ) → k < m → length a ≡ 2 ^ m → length b ≡ 2 ^ m → Sparse m k a → Sparse m k b → Sparse (suc m) k (a ++ b)
sparse_low m k a b h la lb sa sb = record {
  none = λ s l on.
      let two = pow-suc 2 m in
      elim (cases_lt s (2 ^ m)) [
        | inl low ↦ get_or_append_left a b 0 s (omega arith) ∙ sa.none s low on
        | inr high ↦
            let whole : s ≡ 1 * 2 ^ m + (s - 2 ^ m) = omega arith in
            let bit : has (s - 2 ^ m) k ≡ true = ap (λ v. eqb v 1) (sym (bit_at_cat_low 1 m (s - 2 ^ m) k h)) ∙ ap (λ v. has v k) (sym whole) ∙ on in
            get_or-append_right a b (2 ^ m) s 0 la high ∙ sb.none (s - 2 ^ m) (omega arith) bit
      ];
  few =
      let fa = sa.few in
      let fb = sb.few in
      let s : suc m - 1 ≡ suc (m - 1) = omega arith in
      let p : 2 ^ (suc m - 1) ≡ 2 ^ suc (m - 1) = ap (λ e. 2 ^ e) s in
      let two = pow-suc 2 (m - 1) in
      omega (arith, needed-append a b);
}

-- ---- the halves of a table

other_low : (m x : ℕ) → x < 2 ^ m → other m x ≡ 2 ^ m + x
other_low m x h =
    let a : x ≡ 0 * 2 ^ m + x = omega arith in
    let b : 2 ^ m ≡ 1 * 2 ^ m + 0 = omega arith in
    let z : bit_xor 0 1 * 2 ^ m + bit_xor x 0 ≡ 2 ^ m + x = ap (λ v. bit_xor 0 1 * 2 ^ m + v) (xor_zero_r x) ∙ (omega arith) in
    ap (λ v. bit_xor v (2 ^ m)) a ∙ ap (bit_xor (0 * 2 ^ m + x)) b ∙ xor_block m 0 1 x 0 h (pow_pos m) ∙ z

other_high : (m k x : ℕ) → k < m → x < 2 ^ m → other k (2 ^ m + x) ≡ 2 ^ m + other k x
other_high m k x hk h =
    let a : 2 ^ m + x ≡ 1 * 2 ^ m + x = omega arith in
    let b : 2 ^ k ≡ 0 * 2 ^ m + 2 ^ k = omega arith in
    let z : bit_xor 1 0 * 2 ^ m + other k x ≡ 2 ^ m + other k x = omega arith in
    ap (λ v. bit_xor v (2 ^ k)) a ∙ ap (bit_xor (1 * 2 ^ m + x)) b ∙ xor_block m 1 0 x (2 ^ k) h (pow_below k m hk) ∙ z

-- without the bit that halves it, the halves are the same
same_halves : (m : ℕ) (t : List ℕ) → length t ≡ 2 ^ suc m → IsFreeTable (suc m) m t → (x : ℕ) → x < 2 ^ m
    → get_or (xor_each (take (2 ^ m) t) (drop (2 ^ m) t)) x 0 ≡ 0
same_halves m t len free x h =
    grind (arith, pow-suc, length-low, length-high, get_or-xor_each, bit_xor, get_or-take, get_or-drop, other_low, xor_self)

-- without a lower bit, both halves are without it
free_low : (m k : ℕ) (t : List ℕ) → k < m → IsFreeTable (suc m) k t → IsFreeTable m k (take (2 ^ m) t)
free_low m k t hk free x h = grind (arith, pow-suc, get_or-take, other_within)

free_high : (m k : ℕ) (t : List ℕ) → k < m → IsFreeTable (suc m) k t → IsFreeTable m k (drop (2 ^ m) t)
free_high m k t hk free x h = grind (arith, pow-suc, get_or-drop, other_high)

free_each : (m k : ℕ) (a b : List ℕ) → k < m → length a ≡ 2 ^ m → length b ≡ 2 ^ m → IsFreeTable m k a → IsFreeTable m k b → IsFreeTable m k (xor_each a b)
free_each m k a b hk la lb fa fb x h = grind (arith, other_within, get_or-xor_each)

zeros_stay : (m : ℕ) (t : List ℕ) → length t ≡ 2 ^ m → ((i : ℕ) → i < 2 ^ m → get_or t i 0 ≡ 0) → (i : ℕ) → i < 2 ^ m → get_or (transformed m t) i 0 ≡ 0
zeros_stay m t len zeros i h =
    let all : All (λ y. y < 2 ^ 0) t = λ j d l. let z = zeros j (omega arith) in let e = get_or_default t j d 0 l in omega arith in
    let r = small_transformed m 0 t len all i 0 (let l = length-transformed m t len in omega arith) in
    omega arith

sparse : (n k : ℕ) (t : List ℕ) → k < n → length t ≡ 2 ^ n → IsFreeTable n k t → Sparse n k (transformed n t)
unfolding transformed
sparse zero k t h len free = absurd (omega arith)
sparse (suc m) k t h len free =
    let a : List ℕ = take (2 ^ m) t in
    let b : List ℕ = xor_each (take (2 ^ m) t) (drop (2 ^ m) t) in
    let l = length-low m t len in
    let r = length-high m t len in
    let lb : length (xor_each (take (2 ^ m) t) (drop (2 ^ m) t)) ≡ 2 ^ m = length-xor_each (take (2 ^ m) t) (drop (2 ^ m) t) (l ∙ sym r) ∙ r in
    let ta = length-transformed m (take (2 ^ m) t) l in
    let tb = length-transformed m (xor_each (take (2 ^ m) t) (drop (2 ^ m) t)) lb in
    elim (cases_lt k m) [
      | inl less ↦
          sparse_low m k (transformed m (take (2 ^ m) t)) (transformed m (xor_each (take (2 ^ m) t) (drop (2 ^ m) t))) less ta tb
          (sparse m k (take (2 ^ m) t) less l (free_low m k t less free))
          (sparse m k (xor_each (take (2 ^ m) t) (drop (2 ^ m) t)) less lb
          (free_each m k (take (2 ^ m) t) (drop (2 ^ m) t) less l r (free_low m k t less free) (free_high m k t less free)))
      | inr more ↦
          let at : k ≡ m = omega arith in
          let P : ℕ → Type 0 = λ j. Sparse (suc m) j (transformed m (take (2 ^ m) t) ++ transformed m (xor_each (take (2 ^ m) t) (drop (2 ^ m) t))) in
          let Q : ℕ → Type 0 = λ j. IsFreeTable (suc m) j t in
          subst P (sym at)
          (sparse_top m (transformed m (take (2 ^ m) t)) (transformed m (xor_each (take (2 ^ m) t) (drop (2 ^ m) t))) ta tb
          (zeros_stay m (xor_each (take (2 ^ m) t) (drop (2 ^ m) t)) lb (same_halves m t len (subst Q at free))))
    ]

-- ---- the list

-- the line of the bit is `-` in every cube of the list
pub reed_muller_dashed : (n k : ℕ) (t : List ℕ) → k < n → length t ≡ 2 ^ n → IsFreeTable n k t → IsDashed (n - 1 - k) (reed_muller n t)
reed_muller_dashed n k t h len free =
    let P : List Cube → Type 0 = IsDashed (n - 1 - k) in
    let s = sparse n k t h len free in
    subst P (reed_muller-transformed n t len)
    (All-terms (λ c. symbol c (n - 1 - k) ≡ Dash) (λ s. set_cube (word_of n s) (get_or (transformed n t) s 0)) 0 (2 ^ n)
    (λ v low high some.
    let bit : has (ones_of (word_of n v)) (n - 1 - k) ≡ has v k =
    has-ones_of (word_of n v) (n - 1 - k) ∙ bit_of-word_of n v (n - 1 - k) (omega arith) ∙ (let e : n - 1 - (n - 1 - k) ≡ k = omega arith in ap (has v) e) in
    let off : has v k ≡ false = false_from_ne_true (has v k) (λ on. eqb-false _ 0 some (s.none v (omega arith) on)) in
    ap (λ b. symbol_of b (has (ones_of (word_of n v)) (n - 1 - k))) (bit ∙ off)))

-- it's at most half as long as the table
pub reed_muller_few : (n k : ℕ) (t : List ℕ) → k < n → length t ≡ 2 ^ n → IsFreeTable n k t → length (reed_muller n t) ≤ 2 ^ (n - 1)
reed_muller_few n k t h len free =
    let s = sparse n k t h len free in
    let lt = length-transformed n t len in
    let l = length-terms (λ s. set_cube (word_of n s) (get_or (transformed n t) s 0)) (transformed n t) 0 (2 ^ n) (sym lt)
    (λ i u. let e : 0 + i ≡ i = omega arith in ap (λ j. get_or (transformed n t) j 0) e) in
    let same = ap length (reed_muller-transformed n t len) in
    let few = s.few in
    omega arith
