-- Bits in the other order, and mirrored sets: the lines of a set as the bits of a number, and controls that are tested by such numbers.
use Rattle.std.proofs.Common.{◌≡◌, ℕ, ◌+◌, ◌-◌, ◌*◌, ◌/◌, ◌%◌, ◌^◌, ◌<◌, ◌≤◌, Bool, true, false, cond, ◌&&◌, ◌||◌, eqb, ltb, min, refl, sym, ◌∙◌, ap, inl, inr, arith, eq-eqb}
use Rattle.std.specs.Prelude.{bit_and, bit_or, bit_xor}
use Rattle.std.proofs.lemmas.Bool.{and_parts, cases_lt, eqb-true, false≢true, le-leb, lt-leb, ltb-true}
use Rattle.std.proofs.lemmas.Bool.Decides.{same_from_decides}
use Rattle.std.proofs.lemmas.Nat.Bits.{bit_at-lt, bit_at-zero, bit_at_and, bit_at_xor, bit_at_above, same_from_bits}
use Rattle.std.specs.Int.{bit_at}
use Rattle.rv_gate.specs.Word.{has, word_of}
use Rattle.rv_gate.specs.inside.laws.WordLaws.{length-word_of, bit_of-word_of}
use Rattle.rv_gate.specs.Gate.{all_below, holds, xor}
use Rattle.rv_gate.specs.inside.Mirror.{are_pairs, came_from, is_above}
use Rattle.rv_gate.proofs.AllBelow.{all_below-at}
use Rattle.rv_gate.proofs.Bits.{and_comm}
use Rattle.rv_gate.proofs.LineSets.{bit_cases, has_one, bits_from_has, bit_at-shr, has-and, has-or, has-shl, has-shl_below}
use Rattle.rv_gate.proofs.inside.GateLemmas.{Hold, holds_Decides}

-- ---- one exchange

exchanged_bits : (ups mask : Bool) (from up : Bool) → xor mask ups ≡ true → ((from && mask) || (ups && up)) ≡ cond mask from up
exchanged_bits true true from up e = absurd (false≢true e)
exchanged_bits true false true up e = refl
exchanged_bits true false false up e = refl
exchanged_bits false true true up e = refl
exchanged_bits false true false up e = refl
exchanged_bits false false from up e = absurd (false≢true e)

chosen : (x : ℕ) (mask : Bool) (i j : ℕ) → cond mask (has x i) (has x j) ≡ has x (cond mask i j)
chosen x true i j = refl
chosen x false i j = refl

came_up : (x mask apart k : ℕ) → k < 64 → has (bit_and x mask * 2 ^ apart % 2 ^ 64) k ≡ (is_above mask apart k && has x (k - apart))
came_up x mask apart k lt =
    elim (cases_lt k apart) [
      | inl below ↦ has-shl_below (bit_and x mask) apart k lt below ∙ sym (ap (λ b. (b && has mask (k - apart)) && has x (k - apart)) (lt-leb apart k below))
      | inr le ↦
          has-shl (bit_and x mask) apart k lt le
          ∙ has-and x mask (k - apart)
          ∙ and_comm (has x (k - apart)) (has mask (k - apart))
          ∙ sym (ap (λ b. (b && has mask (k - apart)) && has x (k - apart)) (le-leb apart k le))
    ]

pub exchanged_bit : (x mask apart k : ℕ) → are_pairs mask apart ≡ true → k < 64
    → has (bit_or (bit_and (x / 2 ^ apart) mask) (bit_and x mask * 2 ^ apart % 2 ^ 64)) k ≡ has x (came_from mask apart k)
exchanged_bit x mask apart k pairs lt =
    let e : apart + k ≡ k + apart = omega arith in
    let down : has (bit_and (x / 2 ^ apart) mask) k ≡ (has x (k + apart) && has mask k) = has-and (x / 2 ^ apart) mask k ∙ ap (λ b. eqb b 1 && has mask k) (bit_at-shr x apart k ∙ ap (bit_at x) e) in
    has-or (bit_and (x / 2 ^ apart) mask) _ k
    ∙ rw (down, came_up x mask apart k lt) (exchanged_bits (is_above mask apart k) (has mask k) (has x (k + apart)) (has x (k - apart)) (all_below-at (λ i. xor (has mask i) (is_above mask apart i)) 64 k pairs lt))
    ∙ chosen x (has mask k) (k + apart) (k - apart)

-- ---- six exchanges

abbrev pub from_32 : ℕ → ℕ
from_32 k = came_from 0xFFFFFFFF 32 k

abbrev pub from_16 : ℕ → ℕ
from_16 k = came_from 0xFFFF0000FFFF 16 (from_32 k)

abbrev pub from_8 : ℕ → ℕ
from_8 k = came_from 0xFF00FF00FF00FF 8 (from_16 k)

abbrev pub from_4 : ℕ → ℕ
from_4 k = came_from 0x0F0F0F0F0F0F0F0F 4 (from_8 k)

abbrev pub from_2 : ℕ → ℕ
from_2 k = came_from 0x3333333333333333 2 (from_4 k)

abbrev comes_from_other : ℕ → Bool
comes_from_other k = ltb (from_32 k) 64 && (ltb (from_16 k) 64 && (ltb (from_8 k) 64 && (ltb (from_4 k) 64 && (ltb (from_2 k) 64 && eqb (came_from 0x5555555555555555 1 (from_2 k)) (63 - k)))))

all_from_other : all_below comes_from_other 64 ≡ true
all_from_other = refl

-- where the six exchanges take a bit from, and that none of their places is beyond the 64
pub record IsReversed (k : ℕ) : Type 0 where
  pub by_32 : from_32 k < 64
  pub by_16 : from_16 k < 64
  pub by_8 : from_8 k < 64
  pub by_4 : from_4 k < 64
  pub by_2 : from_2 k < 64
  pub by_1 : came_from 0x5555555555555555 1 (from_2 k) ≡ 63 - k

pub is_reversed : (k : ℕ) → k < 64 → IsReversed k
is_reversed k lt =
    let a = and_parts (ltb (from_32 k) 64) _ (all_below-at comes_from_other 64 k all_from_other lt) in
    let b = and_parts (ltb (from_16 k) 64) _ a.1 in
    let c = and_parts (ltb (from_8 k) 64) _ b.1 in
    let d = and_parts (ltb (from_4 k) 64) _ c.1 in
    let e = and_parts (ltb (from_2 k) 64) _ d.1 in
    record { by_32 = ltb-true _ _ a.0; by_16 = ltb-true _ _ b.0; by_8 = ltb-true _ _ c.0; by_4 = ltb-true _ _ d.0; by_2 = ltb-true _ _ e.0; by_1 = eqb-true _ _ e.1 }

-- a mask has the lines of a set as bits of the number of a word of n lines
pub record IsMirror (n lines mask : ℕ) : Type 0 where
  pub below : mask < 2 ^ n
  pub at : (i : ℕ) → i < n → bit_at mask i ≡ bit_at lines (n - 1 - i)

-- the lowest n of 64 bits, after all were put in the other order
pub mirror_bits : (x lines n i : ℕ) → ((k : ℕ) → k < 64 → has x k ≡ has lines (63 - k)) → n ≤ 64 → i < n → bit_at (x / 2 ^ (64 - n)) i ≡ bit_at lines (n - 1 - i)
mirror_bits x lines n i reversed few h =
    let e : 63 - (64 - n + i) ≡ n - 1 - i = omega arith in
    bit_at-shr x (64 - n) i ∙ bits_from_has x (64 - n + i) lines (63 - (64 - n + i)) (reversed (64 - n + i) (omega arith)) ∙ ap (bit_at lines) e

-- a mirror image has the set as its own
pub mirrored_back : (n x lines : ℕ) → ((i : ℕ) → i < n → bit_at x i ≡ bit_at lines (n - 1 - i))
    → (i : ℕ) → i < n → bit_at lines i ≡ bit_at x (n - 1 - i)
mirrored_back n x lines mirror i h =
    let back : n - 1 - (n - 1 - i) ≡ i = omega arith in
    sym (mirror (n - 1 - i) (omega arith) ∙ ap (bit_at lines) back)

-- ---- controls of a word by its number

-- the test by masks
by_masks : (n x care want c w : ℕ) → IsMirror n care c → IsMirror n want w → bit_and (bit_xor x w) c ≡ 0 → Hold care want (word_of n x)
by_masks n x care want c w mc mw e line h on =
    let within : line < n = omega (arith, length-word_of n x) in
    let k : ℕ = n - 1 - line in
    let back : n - 1 - k ≡ line = omega arith in
    let c1 : bit_at c k ≡ 1 = mc.at k (omega arith) ∙ ap (bit_at care) back ∙ has_one care line on in
    let wk : bit_at w k ≡ bit_at want line = mw.at k (omega arith) ∙ ap (bit_at want) back in
    let m : min (bit_at (bit_xor x w) k) (bit_at c k) ≡ 0 = sym (bit_at_and (bit_xor x w) c k) ∙ ap (λ z. bit_at z k) e ∙ bit_at-zero k in
    let s = bit_at_xor x w k in
    let bx = bit_at-lt x k in
    let bw = bit_at-lt w k in
    let e2 : bit_at x k ≡ bit_at w k = omega arith in
    bit_of-word_of n x line within ∙ ap (λ b. eqb b 1) (e2 ∙ wk)

to_masks : (n x care want c w : ℕ) → IsMirror n care c → IsMirror n want w → Hold care want (word_of n x) → bit_and (bit_xor x w) c ≡ 0
to_masks n x care want c w mc mw h =
    same_from_bits _ 0 (λ i.
    bit_at_and (bit_xor x w) c i
    ∙ (elim (bit_cases c i) [
      | inl z ↦ omega arith
      | inr one ↦
          (elim (cases_lt i n) [
            | inr past ↦ let z = bit_at_above c n i mc.below past in omega arith
            | inl lt ↦
                let line : ℕ = n - 1 - i in
                let back : n - 1 - line ≡ i = omega arith in
                let on : has care line ≡ true = eq-eqb _ 1 (sym (mc.at i lt) ∙ one) in
                let within : line < n = omega arith in
                let bit = h line (omega (arith, length-word_of n x)) on in
                let xi : bit_at x i ≡ bit_at want line = bits_from_has x i want line (ap (has x) (sym back) ∙ sym (bit_of-word_of n x line within) ∙ bit) in
                let wi = mw.at i lt in
                let s = bit_at_xor x w i in
                omega arith
          ])
    ])
    ∙ sym (bit_at-zero i))

pub holds-mirrored : (n x care want c w : ℕ) → IsMirror n care c → IsMirror n want w → eqb (bit_and (bit_xor x w) c) 0 ≡ holds care want (word_of n x)
holds-mirrored n x care want c w mc mw =
    same_from_decides {P = Hold care want (word_of n x)} _ _
    (λ e. by_masks n x care want c w mc mw (eqb-true _ _ e), λ h. eq-eqb _ 0 (to_masks n x care want c w mc mw h))
    (holds_Decides care want (word_of n x))
