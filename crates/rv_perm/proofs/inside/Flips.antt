-- What a flip makes of a number, by masks.
use Rattle.std.proofs.Common.{◌≡◌, ℕ, ◌+◌, ◌-◌, ◌%◌, ◌^◌, ◌<◌, Bool, not, eqb, min, List, sym, ◌∙◌, ap, inl, inr, arith, eq-eqb, ne_eqb}
use Rattle.std.specs.Prelude.{bit_and, bit_xor}
use Rattle.std.proofs.lemmas.Bool.{cases_eq, cases_Bool, cond-true, cond-false}
use Rattle.std.proofs.lemmas.Nat.{pow_below, xor_lt}
use Rattle.std.proofs.lemmas.Nat.Bits.{bit_at-lt, bit_at_and, bit_at_xor, bit_at-zero, bit_at-pow_same, bit_at-pow_other, same_from_bits}
use Rattle.std.specs.Int.{bit_at}
use Rattle.rv_gate.specs.Word.{has, bit_of, number_of, word_of}
use Rattle.rv_gate.specs.inside.laws.WordLaws.{bit_of-word_of, number_of-word_of_small}
use Rattle.rv_gate.specs.Gate.{flip, act_on_number}
use Rattle.rv_gate.specs.declared.gate.Shape.TheVariants.{Flip}
use Rattle.rv_gate.proofs.inside.Mirrors.{IsMirror, holds-mirrored}
use Rattle.rv_gate.proofs.inside.WordLemmas.{word_of-set}
use Rattle.rv_perm.specs.inside.Walk.{counterpart}

-- the number of a word with one bit changed
flipped : (n v target k : ℕ) → k + 1 + target ≡ n → v < 2 ^ n → number_of (flip (word_of n v) target) ≡ bit_xor v (2 ^ k)
flipped n v target k place lt =
    let w : List Bool = word_of n v in
    let bit : bit_of w target ≡ has v k = let e : n - 1 - target ≡ k = omega arith in bit_of-word_of n v target (omega arith) ∙ ap (has v) e in
    let changed : bit_at (bit_xor v (2 ^ k)) k ≡ (bit_at v k + 1) % 2 = bit_at_xor v (2 ^ k) k ∙ ap (λ b. (bit_at v k + b) % 2) (bit_at-pow_same k) in
    let new : has (bit_xor v (2 ^ k)) k ≡ not (bit_of w target) =
    elim (cases_eq (bit_at v k) 1) [
      | inl on ↦ ne_eqb _ 1 (λ o. omega arith) ∙ sym (ap not (bit ∙ eq-eqb _ 1 on))
      | inr off ↦ (let small = bit_at-lt v k in eq-eqb _ 1 (omega arith) ∙ sym (ap not (bit ∙ ne_eqb _ 1 off)))
    ] in
    let is : word_of n (bit_xor v (2 ^ k)) ≡ flip w target =
    word_of-set n v (bit_xor v (2 ^ k)) target k (not (bit_of w target)) place new
    (λ i h ne. let small = bit_at-lt v i in bit_at_xor v (2 ^ k) i ∙ ap (λ b. (bit_at v i + b) % 2) (bit_at-pow_other k i ne) ∙ (omega arith)) in
    ap number_of (sym is) ∙ number_of-word_of_small n (bit_xor v (2 ^ k)) (xor_lt n v (2 ^ k) lt (pow_below k n (omega arith)))

-- the two tests for the controls
tests : (v c w : ℕ) → eqb (bit_and (bit_xor v (bit_xor c w)) c) c ≡ eqb (bit_and (bit_xor v w) c) 0
tests v c w =
    let bits : (i : ℕ) → (bit_at (bit_xor v (bit_xor c w)) i ≡ (bit_at v i + (bit_at c i + bit_at w i) % 2) % 2) × (bit_at (bit_xor v w) i ≡ (bit_at v i + bit_at w i) % 2) = λ i. (
      bit_at_xor v (bit_xor c w) i ∙ ap (λ b. (bit_at v i + b) % 2) (bit_at_xor c w i),
      bit_at_xor v w i,
    ) in
    elim (cases_eq (bit_and (bit_xor v w) c) 0) [
      | inl zero_it ↦
          eq-eqb _ c
          (same_from_bits _ _ (λ i.
          let z : min (bit_at (bit_xor v w) i) (bit_at c i) ≡ 0 = sym (bit_at_and (bit_xor v w) c i) ∙ ap (λ x. bit_at x i) zero_it ∙ bit_at-zero i in
          let a = bit_at-lt v i in
          let b = bit_at-lt c i in
          let d = bit_at-lt w i in
          let q = bits i in
          bit_at_and (bit_xor v (bit_xor c w)) c i ∙ (omega arith)))
          ∙ sym (eq-eqb _ 0 zero_it)
      | inr other ↦
          ne_eqb _ c
          (λ e. other (same_from_bits _ _ (λ i.
          let z : min (bit_at (bit_xor v (bit_xor c w)) i) (bit_at c i) ≡ bit_at c i = sym (bit_at_and (bit_xor v (bit_xor c w)) c i) ∙ ap (λ x. bit_at x i) e in
          let a = bit_at-lt v i in
          let b = bit_at-lt c i in
          let d = bit_at-lt w i in
          let q = bits i in
          bit_at_and (bit_xor v w) c i ∙ (omega arith) ∙ sym (bit_at-zero i))))
          ∙ sym (ne_eqb _ 0 other)
    ]

-- a flip exchanges each number with its counterpart
pub moved_flip : (n v care want target c w : ℕ) → IsMirror n care c → IsMirror n want w → target < n → v < 2 ^ n
    → act_on_number (Flip care want target) n v ≡ counterpart c (bit_xor c w) (2 ^ (n - 1 - target)) v
moved_flip n v care want target c w mc mw target_in lt =
    grind (
      arith,
      word_of,
      bit_and,
      bit_xor,
      tests,
      holds-mirrored,
      cases_Bool,
      number_of,
      cond-true,
      flipped,
      cond-false,
      number_of-word_of_small,
    )
