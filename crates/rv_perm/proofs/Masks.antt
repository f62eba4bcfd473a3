-- Numbers that have all bits of a mask, and the next one.
use Rattle.std.proofs.Common.{◌≡◌, ℕ, zero, suc, ◌+◌, ◌*◌, ◌/◌, ◌%◌, ◌^◌, ◌<◌, ◌≤◌, min, sym, ◌∙◌, ap, inl, inr, arith}
use Rattle.std.specs.Prelude.{bit_and, bit_or}
use Rattle.std.proofs.lemmas.Bool.{cases_eq}
use Rattle.std.proofs.lemmas.Nat.{or_block, and_block, and_le_l, and_le_r}
use Rattle.std.proofs.lemmas.Nat.Bits.{bit_at_and, bit_at_or, same_from_bits}
use Rattle.std.proofs.Math.Nat.{pow-suc}
use Rattle.std.specs.Int.{bit_at}

half : (x : ℕ) → x ≡ x / 2 * 2 ^ 1 + x % 2
half x = omega arith

and_half : (x c : ℕ) → bit_and x c ≡ bit_and (x / 2) (c / 2) * 2 ^ 1 + bit_and (x % 2) (c % 2)
and_half x c =
    let hx : x ≡ x / 2 * 2 ^ 1 + x % 2 = half x in
    let hc : c ≡ c / 2 * 2 ^ 1 + c % 2 = half c in
    ap (λ v. bit_and v c) hx ∙ ap (bit_and (x / 2 * 2 ^ 1 + x % 2)) hc ∙ and_block 1 (x / 2) (c / 2) (x % 2) (c % 2) (omega arith) (omega arith)

or_half : (x c : ℕ) → bit_or x c ≡ bit_or (x / 2) (c / 2) * 2 ^ 1 + bit_or (x % 2) (c % 2)
or_half x c =
    let hx : x ≡ x / 2 * 2 ^ 1 + x % 2 = half x in
    let hc : c ≡ c / 2 * 2 ^ 1 + c % 2 = half c in
    ap (λ v. bit_or v c) hx ∙ ap (bit_or (x / 2 * 2 ^ 1 + x % 2)) hc ∙ or_block 1 (x / 2) (c / 2) (x % 2) (c % 2) (omega arith) (omega arith)

-- the halves of a number with all bits of the mask
and_parts : (x c : ℕ) → bit_and x c ≡ c → (bit_and (x / 2) (c / 2) ≡ c / 2) × (c % 2 ≤ x % 2)
and_parts x c e = grind (arith, and_half, and_le_r, and_le_l)

-- a mask that the number has adds nothing
pub or_same : (x c : ℕ) → bit_and x c ≡ c → bit_or x c ≡ x
or_same x c e =
    same_from_bits _ _ (λ i.
    let m : min (bit_at x i) (bit_at c i) ≡ bit_at c i = sym (bit_at_and x c i) ∙ ap (λ v. bit_at v i) e in
    bit_at_or x c i ∙ omega arith)

pub next_least : (n x y c : ℕ) → x < 2 ^ n → y < 2 ^ n → bit_and x c ≡ c → bit_and y c ≡ c → x < y → bit_or (x + 1) c ≤ y
next_least zero x y c hx hy ex ey lt = absurd (omega arith)
next_least (suc n) x y c hx hy ex ey lt =
    let px = and_parts x c ex in
    let py = and_parts y c ey in
    let two = pow-suc 2 n in
    let h = or_half (x + 1) c in
    elim (cases_eq (x % 2) 1) [
      | inl odd ↦
          let up : (x + 1) / 2 ≡ x / 2 + 1 = omega arith in
          let low : (x + 1) % 2 ≡ 0 = omega arith in
          let l : bit_or ((x + 1) % 2) (c % 2) ≡ c % 2 = ap (λ v. bit_or v (c % 2)) low in
          let r : bit_or ((x + 1) / 2) (c / 2) ≡ bit_or (x / 2 + 1) (c / 2) = ap (λ v. bit_or v (c / 2)) up in
          let ih = next_least n (x / 2) (y / 2) (c / 2) (omega arith) (omega arith) px.0 py.0 (omega arith) in
          omega (arith, px.1, py.1)
      | inr even ↦
          let same : (x + 1) / 2 ≡ x / 2 = omega arith in
          let none : c % 2 ≡ 0 = omega (arith, px.1) in
          let top : (x + 1) % 2 ≡ 1 = omega arith in
          let l : bit_or ((x + 1) % 2) (c % 2) ≡ 1 = ap (λ v. bit_or v (c % 2)) top ∙ ap (bit_or 1) none in
          let r : bit_or ((x + 1) / 2) (c / 2) ≡ x / 2 = ap (λ v. bit_or v (c / 2)) same ∙ or_same (x / 2) (c / 2) px.0 in
          omega arith
    ]
