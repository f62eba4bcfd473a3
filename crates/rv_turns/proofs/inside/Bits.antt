-- Words with bits changed, and overlaps.
use Rattle.std.proofs.Common.{arith}
use Rattle.std.proofs.Common.{◌≡◌, ℕ, zero, suc, ◌<◌, Bool, true, false, not, ◌&&◌, List, [], ◌∷◌, length, get_or, set, refl, sym, ap, ◌∙◌, le_of_suc-le-suc, not-suc-le-zero}
use Rattle.rv_gate.specs.Gate.{xor}
use Rattle.rv_turns.specs.inside.Pauli.{flipped, overlap}
use Rattle.rv_gate.proofs.Bits.{xor_assoc}

-- ---- every case of some bits

abbrev pub both : (Bool → Bool) → Bool
both f = f true && f false

pub both_at : (f : Bool → Bool) → both f ≡ true → (b : Bool) → f b ≡ true
both_at f h b = grind arith

abbrev pub both3 : (Bool → Bool → Bool → Bool) → Bool
both3 f = both (λ a. both (λ b. both (λ c. f a b c)))

pub at3 : (f : Bool → Bool → Bool → Bool) → both3 f ≡ true → (a b c : Bool) → f a b c ≡ true
at3 f h a b c = both_at (f a b) (both_at (λ b. both (f a b)) (both_at (λ a. both (λ b. both (f a b))) h a) b) c

pub at6 : (f : Bool → Bool → Bool → Bool → Bool → Bool → Bool) → both3 (λ a b c. both3 (f a b c)) ≡ true → (a b c d e g : Bool) → f a b c d e g ≡ true
at6 f h a b c d e g = at3 (f a b c) (at3 (λ a b c. both3 (f a b c)) h a b c) d e g

pub at9 : (f : Bool → Bool → Bool → Bool → Bool → Bool → Bool → Bool → Bool → Bool) → both3 (λ a b c. both3 (λ d e g. both3 (f a b c d e g))) ≡ true → (a b c d e g i j l : Bool) → f a b c d e g i j l ≡ true
at9 f h a b c d e g i j l = at3 (f a b c d e g) (at6 (λ a b c d e g. both3 (f a b c d e g)) h a b c d e g) i j l

-- two bits are the same
abbrev pub alike : Bool → Bool → Bool
alike true b = b
alike false b = not b

pub same_bits : (a b : Bool) → alike a b ≡ true → a ≡ b
same_bits a b h = grind arith

-- ---- flipped

abbrev bit : List Bool → ℕ → Bool
bit x q = get_or x q false

pub length-flipped : (x v : List Bool) → length (flipped x v) ≡ length v
length-flipped [] v = refl
length-flipped (a ∷ x) [] = refl
length-flipped (a ∷ x) (b ∷ v) = ap suc (length-flipped x v)

xor_false : (b : Bool) → b ≡ xor false b
xor_false true = refl
xor_false false = refl

pub bit-flipped : (x v : List Bool) (q : ℕ) → q < length v → bit (flipped x v) q ≡ xor (bit x q) (bit v q)
bit-flipped [] v q h = xor_false (bit v q)
bit-flipped (a ∷ x) [] q h = absurd (not-suc-le-zero h)
bit-flipped (a ∷ x) (b ∷ v) zero h = refl
bit-flipped (a ∷ x) (b ∷ v) (suc q) h = bit-flipped x v q (le_of_suc-le-suc h)

pub flipped-word : (x v : List Bool) (q : ℕ) (c : Bool) → flipped x (set v q c) ≡ set (flipped x v) q (xor (bit x q) c)
flipped-word [] v q c = ap (set v q) (xor_false c)
flipped-word (a ∷ x) [] q c = refl
flipped-word (a ∷ x) (b ∷ v) zero c = refl
flipped-word (a ∷ x) (b ∷ v) (suc q) c = ap (λ l. xor a b ∷ l) (flipped-word x v q c)

pub flipped-flips : (x v : List Bool) (q : ℕ) (c : Bool) → q < length x → flipped (set x q c) v ≡ set (flipped x v) q (xor c (bit v q))
flipped-flips [] v q c h = absurd (not-suc-le-zero h)
flipped-flips (a ∷ x) [] zero c h = refl
flipped-flips (a ∷ x) [] (suc q) c h = refl
flipped-flips (a ∷ x) (b ∷ v) zero c h = refl
flipped-flips (a ∷ x) (b ∷ v) (suc q) c h = ap (λ l. xor a b ∷ l) (flipped-flips x v q c (le_of_suc-le-suc h))

-- ---- overlaps

first_word : (a b c d : Bool) → xor (a && c) d ≡ xor (xor (a && b) d) (a && xor b c)
first_word a b c d = same_bits _ _ (at6 (λ a b c d e f. alike (xor (a && c) d) (xor (xor (a && b) d) (a && xor b c))) refl a b c d true true)

pub overlap-word : (z v : List Bool) (q : ℕ) (c : Bool) → q < length v → overlap z (set v q c) ≡ xor (overlap z v) (bit z q && xor (bit v q) c)
overlap-word [] v q c h = refl
overlap-word (a ∷ z) [] q c h = absurd (not-suc-le-zero h)
overlap-word (a ∷ z) (b ∷ v) zero c h = first_word a b c (overlap z v)
overlap-word (a ∷ z) (b ∷ v) (suc q) c h = ap (xor (a && b)) (overlap-word z v q c (le_of_suc-le-suc h)) ∙ sym (xor_assoc (a && b) (overlap z v) _)

first_sign : (a b c d : Bool) → xor (c && b) d ≡ xor (xor (a && b) d) (xor a c && b)
first_sign a b c d = same_bits _ _ (at6 (λ a b c d e f. alike (xor (c && b) d) (xor (xor (a && b) d) (xor a c && b))) refl a b c d true true)

pub overlap-signs : (z v : List Bool) (q : ℕ) (c : Bool) → q < length z → overlap (set z q c) v ≡ xor (overlap z v) (xor (bit z q) c && bit v q)
overlap-signs [] v q c h = absurd (not-suc-le-zero h)
overlap-signs (a ∷ z) [] zero c h = none (xor a c)
  where
    none : (b : Bool) → false ≡ xor false (b && false)
    none true = refl
    none false = refl
overlap-signs (a ∷ z) [] (suc q) c h = none (xor (bit z q) c)
  where
    none : (b : Bool) → false ≡ xor false (b && false)
    none true = refl
    none false = refl
overlap-signs (a ∷ z) (b ∷ v) zero c h = first_sign a b c (overlap z v)
overlap-signs (a ∷ z) (b ∷ v) (suc q) c h = ap (xor (a && b)) (overlap-signs z v q c (le_of_suc-le-suc h)) ∙ sym (xor_assoc (a && b) (overlap z v) _)
