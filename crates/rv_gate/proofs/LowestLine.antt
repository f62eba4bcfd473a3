-- The lines of a set, the lowest first.
use Rattle.std.proofs.Common.{◌≡◌, ◌≢◌, ℕ, ◌*◌, ◌%◌, ◌^◌, ◌<◌, true, false, sym, ◌∙◌, ap, inl, inr, arith, eqb, eq-eqb, ne_eqb, w64, bit_and}
use Rattle.std.specs.Int.{bit_not, trailing_zeros}
use Rattle.std.proofs.lemmas.Bool.{cases_eq, false≢true}
use Rattle.std.proofs.lemmas.Nat.{and_le_l}
use Rattle.std.proofs.lemmas.Nat.Bits.{bit_at-trailing_zeros, bit_at-zero, bit_at_clear_same, bit_at_clear_other}
use Rattle.rv_gate.specs.Word.{has}
use Rattle.rv_gate.proofs.LineSets.{has-none}

-- a set without its lowest line
pub record IsLowest (left line rest : ℕ) : Type 0 where
  pub within : line < 64
  pub there : has left line ≡ true
  pub fewer : rest < left
  pub least : (k : ℕ) → k < line → has left k ≡ false
  pub gone : has rest line ≡ false
  pub same : (k : ℕ) → k < 64 → k ≢ line → has rest k ≡ has left k

abbrev without : ℕ → ℕ → ℕ
without left line = bit_and left (bit_not w64 (1 * 2 ^ line % 2 ^ 64))

is_gone : (left line : ℕ) → line < 64 → has (without left line) line ≡ false
is_gone left line within = ne_eqb _ 1 (λ e. let z = bit_at_clear_same w64 left line within in omega arith)

fewer_lines : (left line : ℕ) → line < 64 → has left line ≡ true → without left line < left
fewer_lines left line within there =
    let le = and_le_l left (bit_not w64 (1 * 2 ^ line % 2 ^ 64)) in
    elim (cases_eq (without left line) left) [
      | inl same ↦ absurd (false≢true (sym (is_gone left line within) ∙ ap (λ s. has s line) same ∙ there))
      | inr fewer ↦ omega arith
    ]

pub lowest_line : (left : ℕ) → 0 < left → left < 2 ^ 64 → IsLowest left (trailing_zeros w64 left) (without left (trailing_zeros w64 left))
lowest_line left some small =
    let is = bit_at-trailing_zeros w64 left some small in
    let there : has left (trailing_zeros w64 left) ≡ true = eq-eqb _ 1 is.1 in
    record {
      within = is.0;
      there = there;
      least = λ k lower. ne_eqb _ 1 (λ one. let zero = is.2 k lower in omega arith);
      gone = is_gone left (trailing_zeros w64 left) is.0;
      fewer = fewer_lines left (trailing_zeros w64 left) is.0 there;
      same = λ k below other. ap (λ b. eqb b 1) (bit_at_clear_other w64 left (trailing_zeros w64 left) is.0 k below other);
    }

-- a line of the rest was there before
pub still_there : (left line rest : ℕ) → IsLowest left line rest → (k : ℕ) → k < 64 → has rest k ≡ true → has left k ≡ true
still_there left line rest lowest k below on =
    elim (cases_eq k line) [
      | inl here ↦ rw here lowest.there
      | inr other ↦ sym (lowest.same k below other) ∙ on
    ]
