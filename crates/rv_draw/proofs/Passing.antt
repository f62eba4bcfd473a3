-- Lines that a gate passes.
use Rattle.std.proofs.Common.{◌≡◌, ◌≢◌, ℕ, zero, suc, ◌+◌, ◌*◌, ◌/◌, ◌%◌, ◌^◌, ◌<◌, ◌≤◌, Bool, true, false, not, ◌&&◌}
use Rattle.std.proofs.Common.{nat_eq, nat_lt, ◌-◌, sym, ap, ◌∙◌, inl, inr, ◌⊎◌, arith, ne_eqb, true≢false}
use Rattle.std.proofs.lemmas.Bool.{and_from, and_parts, cases_Bool, cases_eq, cases_lt, eqb-false, le-ltb, ltb-false}
use Rattle.std.proofs.lemmas.Bool.{not-true}
use Rattle.std.proofs.Math.Nat.{div-add-mod, mod-lt, mul_comm}
use Rattle.std.proofs.lemmas.Nat.{pow_pos}
use Rattle.std.proofs.lemmas.Nat.Bits.{bit_at-zero, bit_at_cat_low, same_from_bits, same_from_bits_below}
use Rattle.std.specs.Int.{bit_at}
use Rattle.rv_gate.specs.Word.{has}
use Rattle.rv_gate.proofs.LineSets.{bit_at-shr, has_not, has_one, has-above}
use Rattle.rv_draw.specs.Symbols.{is_between}

-- a set has a line before this one, and this one or a later one
pub record IsPassed (lines line : ℕ) : Type 0 where
  pub above : ℕ
  pub is_above : above < line
  pub has_above : has lines above ≡ true
  pub below : ℕ
  pub is_below : line ≤ below
  pub has_below : has lines below ≡ true

-- a number below n that passes, or none does
search_below : (p : ℕ → Bool) (n : ℕ) → ((i : ℕ) × (i < n) × (p i ≡ true)) ⊎ ((i : ℕ) → i < n → p i ≡ false)
search_below p zero = inr (λ i lt. absurd (omega (arith, lt)))
search_below p (suc n) =
    elim (cases_Bool (p n)) [
      | inl on ↦ inl (n, omega arith, on)
      | inr off ↦
          (elim (search_below p n) [
            | inl found ↦ inl (found.0, (let lt = found.1 in omega arith), found.2)
            | inr none ↦ inr (λ i lt. elim (cases_eq i n) [ inl same ↦ ap p same ∙ off | inr other ↦ none i (omega (arith, lt, other)) ])
          ])
    ]

low_bit : (set line i : ℕ) → i < line → bit_at set i ≡ bit_at (set % 2 ^ line) i
low_bit set line i lt = ap (λ n. bit_at n i) (parts set line) ∙ bit_at_cat_low (set / 2 ^ line) line (set % 2 ^ line) i lt
  where
    parts : (set line : ℕ) → set ≡ set / 2 ^ line * 2 ^ line + set % 2 ^ line
    parts set line = sym (div-add-mod set (2 ^ line)) ∙ ap (λ q. q + set % 2 ^ line) (mul_comm (2 ^ line) (set / 2 ^ line))

no_low : (set line : ℕ) → ((i : ℕ) → i < line → has set i ≡ false) → set % 2 ^ line ≡ 0
no_low set line none =
    same_from_bits_below line (set % 2 ^ line) 0 (mod-lt set (pow_pos line)) (pow_pos line)
    (λ i lt. sym (low_bit set line i lt) ∙ has_not set i (none i lt) ∙ sym (bit_at-zero i))

some_low : (set line i : ℕ) → i < line → has set i ≡ true → set % 2 ^ line ≢ 0
some_low set line i lt on z =
    let one = has_one set i on in
    let same = low_bit set line i lt ∙ ap (λ n. bit_at n i) z ∙ bit_at-zero i in
    omega (arith, one, same)

no_high : (set line n : ℕ) → set < 2 ^ n → ((i : ℕ) → i < n → line ≤ i → has set i ≡ false) → set / 2 ^ line ≡ 0
no_high set line n lt none =
    same_from_bits (set / 2 ^ line) 0 (λ i.
    bit_at-shr set line i
    ∙ has_not set (line + i) (elim (cases_lt (line + i) n) [ inl below ↦ none (line + i) below (omega arith) | inr above ↦ has-above set n (line + i) lt above ])
    ∙ sym (bit_at-zero i))

some_high : (set line i : ℕ) → line ≤ i → has set i ≡ true → set / 2 ^ line ≢ 0
some_high set line i le on z =
    let one = has_one set i on in
    let there : line + (i - line) ≡ i = omega (arith, le) in
    let same = ap (bit_at set) (sym there) ∙ sym (bit_at-shr set line (i - line)) ∙ ap (λ n. bit_at n (i - line)) z ∙ bit_at-zero (i - line) in
    omega (arith, one, same)

pub between_passed : (set line n : ℕ) → set < 2 ^ n → is_between set line ≡ true → IsPassed set line
between_passed set line n lt is =
    let both = and_parts (not (nat_eq (set % 2 ^ line) 0)) (not (nat_eq (set / 2 ^ line) 0)) is in
    let low : set % 2 ^ line ≢ 0 = eqb-false _ _ (not-true _ both.0) in
    let high : set / 2 ^ line ≢ 0 = eqb-false _ _ (not-true _ both.1) in
    elim (search_below (has set) line) [
      | inr none ↦ absurd (low (no_low set line none))
      | inl first ↦
          (elim (search_below (λ i. not (nat_lt i line) && has set i) n) [
            | inr none ↦ absurd (high (no_high set line n lt (λ i below le. apart (not (nat_lt i line)) (has set i) (ap not (le-ltb i line le)) (none i below))))
            | inl last ↦
                (let parts = and_parts (not (nat_lt last.0 line)) (has set last.0) last.2 in
                record { above = first.0; is_above = first.1; has_above = first.2; below = last.0; is_below = ltb-false _ _ (not-true _ parts.0); has_below = parts.1 })
          ])
    ]
  where
    apart : (a b : Bool) → a ≡ true → (a && b) ≡ false → b ≡ false
    apart true b h k = k
    apart false b h k = absurd (true≢false (sym h))

pub passed_between : (set line : ℕ) → IsPassed set line → is_between set line ≡ true
passed_between set line is =
    and_from (not (nat_eq (set % 2 ^ line) 0)) (not (nat_eq (set / 2 ^ line) 0))
    (ap not (ne_eqb _ 0 (some_low set line is.above is.is_above is.has_above)))
    (ap not (ne_eqb _ 0 (some_high set line is.below is.is_below is.has_below)))
