-- Laws of words and their numbers.
use Rattle.std.proofs.Common.{◌≡◌, ℕ, zero, suc, ◌+◌, ◌-◌, ◌*◌, ◌/◌, ◌%◌, ◌^◌, ◌<◌, Bool, true, false, cond, eqb, List, [], ◌∷◌, length, get_or, refl, sym, ◌∙◌, ap, inl, inr, arith, ext_get_or, eq-eqb, ne_eqb}
use Rattle.std.proofs.lemmas.Bool.{cases_eq}
use Rattle.std.proofs.lemmas.Nat.{mod-pow-add}
use Rattle.std.proofs.lemmas.Nat.Bits.{bit_at-lt, bit_at-suc, bit_at_lowest, bit_at_cat_low, bit_at_cat_high, bit_at_above}
use Rattle.std.proofs.Math.Nat.{pow-suc, mod-eq_of_lt}
use Rattle.std.specs.Int.{bit_at}
use Rattle.rv_gate.specs.Word.{has, number_of, word_of, ones_of, word_with}

pub length-word_of : (n x : ℕ) → length (word_of n x) ≡ n
unfolding word_of
length-word_of zero x = refl
length-word_of (suc n) x = ap suc (length-word_of n x)

pub bit_of-word_of : (n x i : ℕ) → i < n → get_or (word_of n x) i false ≡ has x (n - 1 - i)
unfolding word_of
bit_of-word_of zero x i h = absurd (omega arith)
bit_of-word_of (suc n) x zero h = let e : n ≡ suc n - 1 - 0 = omega arith in ap (has x) e
bit_of-word_of (suc n) x (suc i) h =
    let e : n - 1 - i ≡ suc n - 1 - suc i = omega arith in
    bit_of-word_of n x i (omega arith) ∙ ap (has x) e

-- a bit is 1 or 0
bit_value : (x n : ℕ) → cond (has x n) 1 0 ≡ bit_at x n
bit_value x n =
    let small : bit_at x n < 2 = bit_at-lt x n in
    elim (cases_eq (bit_at x n) 1) [
      | inl one ↦ rw one refl
      | inr other ↦ ap (λ b. cond b 1 0) (ne_eqb _ _ other) ∙ (omega arith)
    ]

cond-times : (b : Bool) (p : ℕ) → cond b p 0 ≡ cond b 1 0 * p
cond-times true p = omega arith
cond-times false p = omega arith

pub number_of-word_of : (n x : ℕ) → number_of (word_of n x) ≡ x % 2 ^ n
unfolding number_of word_of
number_of-word_of zero x = omega arith
number_of-word_of (suc n) x =
    let m = mod-pow-add x 1 n in
    let e : cond (has x n) (2 ^ length (word_of n x)) 0 ≡ bit_at x n * 2 ^ n =
    ap (λ k. cond (has x n) (2 ^ k) 0) (length-word_of n x) ∙ cond-times (has x n) (2 ^ n)
    ∙ ap (λ b. b * 2 ^ n) (bit_value x n) in
    let s : 1 + n ≡ suc n = omega arith in
    let m2 : x % 2 ^ suc n ≡ bit_at x n * 2 ^ n + x % 2 ^ n = ap (λ k. x % 2 ^ k) (sym s) ∙ m in
    omega (arith, e, m2, number_of-word_of n x)

pub number_of-lt : (w : List Bool) → number_of w < 2 ^ length w
unfolding number_of
number_of-lt [] = omega arith
number_of-lt (true ∷ w) = omega (arith, number_of-lt w, pow-suc 2 (length w))
number_of-lt (false ∷ w) = omega (arith, number_of-lt w, pow-suc 2 (length w))

-- only the lowest n bits matter
pub word_of-same : (n x y : ℕ) → ((i : ℕ) → i < n → bit_at x i ≡ bit_at y i) → word_of n x ≡ word_of n y
unfolding word_of
word_of-same zero x y h = refl
word_of-same (suc n) x y h =
    let e : has x n ≡ has y n = ap (λ b. eqb b 1) (h n (omega arith)) in
    let r = word_of-same n x y (λ i l. h i (omega arith)) in
    cc

has_top : (b : Bool) (n x : ℕ) → x < 2 ^ n → has (cond b (2 ^ n) 0 + x) n ≡ b
has_top true n x h =
    let e : bit_at (1 * 2 ^ n + x) n ≡ bit_at 1 (n - n) = bit_at_cat_high 1 n x n h (omega arith) in
    let z : n - n ≡ 0 = omega arith in
    let p : 1 * 2 ^ n + x ≡ 2 ^ n + x = omega arith in
    eq-eqb _ 1 (ap (λ k. bit_at k n) (sym p) ∙ e ∙ ap (bit_at 1) z)
has_top false n x h =
    ne_eqb _ 1 (let z : 0 + x ≡ x = omega arith in
    let e : bit_at (0 + x) n ≡ 0 = rw z (bit_at_above x n n h (omega arith)) in λ o. omega arith)

low_of : (b : Bool) (n x i : ℕ) → i < n → bit_at (cond b (2 ^ n) 0 + x) i ≡ bit_at x i
low_of true n x i h =
    let p : 1 * 2 ^ n + x ≡ 2 ^ n + x = omega arith in
    ap (λ k. bit_at k i) (sym p) ∙ bit_at_cat_low 1 n x i h
low_of false n x i h = let z : 0 + x ≡ x = omega arith in ap (λ k. bit_at k i) z

pub word_of-number_of : (w : List Bool) → word_of (length w) (number_of w) ≡ w
unfolding number_of word_of
word_of-number_of [] = refl
word_of-number_of (b ∷ w) =
    let t = has_top b (length w) (number_of w) (number_of-lt w) in
    let r = word_of-same (length w) _ (number_of w) (λ i h. low_of b (length w) (number_of w) i h) in
    let s = word_of-number_of w in
    cc

pub number_of-word_of_small : (n x : ℕ) → x < 2 ^ n → number_of (word_of n x) ≡ x
number_of-word_of_small n x h = number_of-word_of n x ∙ mod-eq_of_lt h

-- ---- words and the sets of their lines

pub length-word_with : (n s : ℕ) → length (word_with n s) ≡ n
unfolding word_with
length-word_with zero s = refl
length-word_with (suc n) s = ap suc (length-word_with n (s / 2))

pub bit_of-word_with : (n s i : ℕ) → i < n → get_or (word_with n s) i false ≡ has s i
unfolding word_with
bit_of-word_with zero s i h = absurd (omega arith)
bit_of-word_with (suc n) s zero h = refl
bit_of-word_with (suc n) s (suc i) h =
    bit_of-word_with n (s / 2) i (omega arith) ∙ ap (λ b. eqb b 1) (sym (bit_at-suc s i))

pub ones_of-word_with : (n s : ℕ) → ones_of (word_with n s) ≡ s % 2 ^ n
unfolding ones_of word_with
ones_of-word_with zero s = omega arith
ones_of-word_with (suc n) s =
    let m : s % 2 ^ (n + 1) ≡ s / 2 ^ 1 % 2 ^ n * 2 ^ 1 + s % 2 ^ 1 = mod-pow-add s n 1 in
    let e : n + 1 ≡ suc n = omega arith in
    let m2 : s % 2 ^ suc n ≡ s / 2 % 2 ^ n * 2 + s % 2 = ap (λ k. s % 2 ^ k) (sym e) ∙ m in
    omega (arith, m2, bit_value s 0, bit_at_lowest s, ones_of-word_with n (s / 2))

pub ones_of-word_with_small : (n s : ℕ) → s < 2 ^ n → ones_of (word_with n s) ≡ s
ones_of-word_with_small n s h = ones_of-word_with n s ∙ mod-eq_of_lt h

-- the same word, by its lines and by its number
pub word_with-mirrored : (n s x : ℕ) → ((i : ℕ) → i < n → bit_at s i ≡ bit_at x (n - 1 - i))
    → word_with n s ≡ word_of n x
word_with-mirrored n s x mirror =
    ext_get_or false _ _ (length-word_with n s ∙ sym (length-word_of n x))
    (λ i h.
    let within : i < n = omega (arith, length-word_with n s) in
    bit_of-word_with n s i within ∙ ap (λ b. eqb b 1) (mirror i within) ∙ sym (bit_of-word_of n x i within))
