-- Values divided by two so many times, as often as the bits of their integers allow.
use Rattle.std.proofs.Common.{◌≡◌, ℕ, zero, suc, ◌-◌, ◌*◌, ◌/◌, ◌%◌, ◌^◌, ◌<◌, ◌≤◌, true, List, [], ◌∷◌, map, All, ℤ, pos, negsuc, neg_ℤ, refl, sym, ap, ap₂, ◌∙◌, arith}
use Rattle.std.proofs.Math.Nat.{div-div-eq-div-mul, pow-suc}
use Rattle.std.proofs.lemmas.Bool.{eq-eqb}
use Rattle.std.proofs.lemmas.Int.{ints}
use Rattle.std.proofs.lemmas.List.Elements.{All-cons, All-nil}
use Rattle.std.proofs.lemmas.Nat.{le_or_l, le_or_r, leading_length, shr_le}
use Rattle.std.proofs.lemmas.Nat.Bits.{bit_at-suc, bit_at-trailing_zeros, bit_at-zero, bit_at_lowest, bit_at_or}
use Rattle.std.specs.Int.{bit_at, int_shr, leading_zeros, trailing_zeros, w64}
use Rattle.std.specs.Int.Bits.{bit_or}
use Rattle.std.specs.List.{fold, list_all}
use Rattle.std.specs.Prelude.{unsigned_abs}
use Rattle.rv_net.specs.Cyclotomic.{Cyclotomic}
use Rattle.rv_net.proofs.Cyclotomic.{same_cyclotomic}
use Rattle.rv_check.specs.Reduced.{half, reduced}
use Rattle.rv_check.specs.inside.Dense.{bits_in, bits_in_all, halved, halved_by, is_double, left}
use Rattle.rv_check.specs.inside.Small.{AreSmall}
use Rattle.rv_check.proofs.inside.Dividing.{left_twice, reduced_twice}

-- its lowest bits, so many, are 0
abbrev pub Low : ℕ → ℕ → Type 0
Low n m = (i : ℕ) → i < n → bit_at m i ≡ 0

pub record AreLow (n : ℕ) (u : Cyclotomic) : Type 0 where
  pub a : Low n (unsigned_abs u.a)
  pub b : Low n (unsigned_abs u.b)
  pub c : Low n (unsigned_abs u.c)
  pub d : Low n (unsigned_abs u.d)

abbrev pub AllLow : ℕ → List Cyclotomic → Type 0
AllLow n [] = Unit {0}
AllLow n (u ∷ vs) = AreLow n u × AllLow n vs

low_or : (n p q : ℕ) → Low n (bit_or p q) → Low n p × Low n q
low_or n p q h = ((λ i lt. omega (arith, bit_at_or p q i, h i lt)), (λ i lt. omega (arith, bit_at_or p q i, h i lt)))

low_in : (n : ℕ) (u : Cyclotomic) → Low n (bits_in u) → AreLow n u
low_in n u h = grind (arith, low_or)

low_from : (n m : ℕ) (vs : List Cyclotomic) → Low n (fold (λ bits u. bit_or bits (bits_in u)) m vs) → Low n m × AllLow n vs
low_from n m [] h = (h, tt)
low_from n m (u ∷ vs) h =
    let r = low_from n (bit_or m (bits_in u)) vs h in
    let p = low_or n m (bits_in u) r.0 in
    (p.0, (low_in n u p.1, r.1))

pub all_low : (n bits : ℕ) (vs : List Cyclotomic) → bits ≡ bits_in_all vs → bits < 2 ^ 64 → n ≤ trailing_zeros w64 bits → AllLow n vs
all_low n bits vs is lt le = (low_from n 0 vs (λ i below. ap (λ m. bit_at m i) (sym is) ∙ go bits lt le i below)).1 where
  go : (bits : ℕ) → bits < 2 ^ 64 → n ≤ trailing_zeros w64 bits → Low n bits
  go zero lt le i below = bit_at-zero i
  go (suc m) lt le i below = (bit_at-trailing_zeros w64 (suc m) (omega arith) lt).2 i (omega (arith, le, below))

-- ---- how great they are

small_in : (most : ℕ) (u : Cyclotomic) → bits_in u ≤ most → AreSmall most u
small_in most u h = grind (arith, le_or_l, le_or_r)

small_from : (m most : ℕ) (vs : List Cyclotomic) → fold (λ bits u. bit_or bits (bits_in u)) m vs ≤ most → (m ≤ most) × All (AreSmall most) vs
small_from m most [] h = (h, All-nil (AreSmall most))
small_from m most (u ∷ vs) h =
    let r = small_from (bit_or m (bits_in u)) most vs h in
    (omega (arith, r.0, le_or_l m (bits_in u)), All-cons (AreSmall most) u vs (small_in most u (omega (arith, r.0, le_or_r m (bits_in u)))) r.1)

pub all_small : (bits most : ℕ) (vs : List Cyclotomic) → bits ≡ bits_in_all vs → bits ≤ most → All (AreSmall most) vs
all_small bits most vs is le = (small_from 0 most vs (omega (arith, is, le))).1

pub width_is : (n w : ℕ) → n < 2 ^ 64 → w ≡ 64 - leading_zeros w64 n → n < 2 ^ w
width_is n w lt is =
    let r = leading_length 64 n lt in
    let e : r.0 ≡ w = omega (arith, r.1, is) in
    omega (arith, r.2, ap (λ k. 2 ^ k) e)

-- ---- one time more

half_abs : (z : ℤ) → unsigned_abs (half z) ≡ unsigned_abs z / 2
half_abs (pos n) = refl
half_abs (negsuc n) = omega (arith, ints)

low_half : (n : ℕ) (z : ℤ) → Low (suc n) (unsigned_abs z) → Low n (unsigned_abs (half z))
low_half n z h i lt = ap (λ m. bit_at m i) (half_abs z) ∙ sym (bit_at-suc (unsigned_abs z) i) ∙ h (suc i) (omega (arith, lt))

even_low : (n : ℕ) (z : ℤ) → Low (suc n) (unsigned_abs z) → unsigned_abs z % 2 ≡ 0
even_low n z h = sym (bit_at_lowest (unsigned_abs z)) ∙ h 0 (omega arith)

halves_low : (n : ℕ) (vs : List Cyclotomic) → AllLow (suc n) vs → AllLow n (map halved vs)
halves_low n [] h = tt
halves_low n (u ∷ vs) (g, h) = (record { a = low_half n u.a g.a; b = low_half n u.b g.b; c = low_half n u.c g.c; d = low_half n u.d g.d }, halves_low n vs h)

doubles_low : (n : ℕ) (vs : List Cyclotomic) → AllLow (suc n) vs → list_all is_double vs ≡ true
doubles_low n [] h = refl
doubles_low n (u ∷ vs) (g, h) = let i0 = doubles_low n vs h in grind (arith, i0, eq-eqb, even_low, ap₂)

div_more : (n m : ℕ) → m / 2 ^ suc n ≡ m / 2 / 2 ^ n
div_more n m = let e : 2 ^ suc n ≡ 2 * 2 ^ n = omega (arith, pow-suc 2 n) in ap (λ k. m / k) e ∙ sym (div-div-eq-div-mul m 2 (2 ^ n))

shr_more : (n : ℕ) (z : ℤ) → unsigned_abs z % 2 ≡ 0 → int_shr z (suc n) ≡ int_shr (half z) n
shr_more n z h = grind (arith, pos, div_more, negsuc, neg_ℤ)

shifted_more : (n : ℕ) (vs : List Cyclotomic) → AllLow (suc n) vs → map (halved_by (suc n)) vs ≡ map (halved_by n) (map halved vs)
shifted_more n [] h = refl
shifted_more n (u ∷ vs) (g, h) =
    let one : (z : ℤ) → Low (suc n) (unsigned_abs z) → int_shr z (suc n) ≡ int_shr (half z) n = λ z low. shr_more n z (even_low n z low) in
    ap₂ (λ w ws. w ∷ ws) (same_cyclotomic _ _ (one u.a g.a) (one u.b g.b) (one u.c g.c) (one u.d g.d)) (shifted_more n vs h)

shr_none : (z : ℤ) → int_shr z 0 ≡ z
shr_none (pos m) = let e : m / 2 ^ 0 ≡ m = omega arith in ap pos e
shr_none (negsuc m) = let e : m / 2 ^ 0 ≡ m = omega arith in ap negsuc e

shifted_none : (vs : List Cyclotomic) → map (halved_by 0) vs ≡ vs
shifted_none [] = refl
shifted_none (u ∷ vs) = ap₂ (λ w ws. w ∷ ws) (same_cyclotomic _ _ (shr_none u.a) (shr_none u.b) (shr_none u.c) (shr_none u.d)) (shifted_none vs)

-- what is left after so many
pub shifted_all : (n exponent : ℕ) (vs : List Cyclotomic) → 2 * n ≤ exponent → AllLow n vs
    → (reduced (exponent - 2 * n) (map (halved_by n) vs) ≡ reduced exponent vs) × (left (exponent - 2 * n) (map (halved_by n) vs) ≡ left exponent vs)
shifted_all zero exponent vs le h = grind (arith, ap₂, shifted_none)
shifted_all (suc n) exponent vs le h = let i0 = shifted_all n (exponent - 2) in grind (arith, i0, doubles_low, halves_low, ap₂, shifted_more, reduced_twice, left_twice)

shr_small : (n most : ℕ) (z : ℤ) → unsigned_abs z ≤ most → unsigned_abs (int_shr z n) ≤ most
shr_small n most (pos m) h = omega (arith, h, shr_le m n)
shr_small n most (negsuc m) h = omega (arith, h, shr_le m n)

pub shifted_small : (n most : ℕ) (u : Cyclotomic) → AreSmall most u → AreSmall most (halved_by n u)
shifted_small n most u h = record { a = shr_small n most u.a h.a; b = shr_small n most u.b h.b; c = shr_small n most u.c h.c; d = shr_small n most u.d h.d }
