-- The controls of a gate, walked from the lowest line on, and how many they are.
use Rattle.std.proofs.Common.{◌≡◌, ℕ, zero, suc, ◌+◌, ◌*◌, ◌/◌, ◌%◌, ◌^◌, ◌<◌, ◌≤◌, Bool, true, false, cond, List, [], ◌∷◌, length, get_or, eqb, refl, sym, ap, ◌∙◌, arith, inl, inr, true≢false, length-append}
use Rattle.std.specs.Prelude.{count_ones}
use Rattle.std.specs.Int.{bit_at}
use Rattle.std.proofs.lemmas.Bool.{cases_lt}
use Rattle.std.proofs.lemmas.Nat.{shr-shr, ones_le_self}
use Rattle.rv_gate.specs.Word.{has}
use Rattle.rv_gate.specs.Gate.{Within}
use Rattle.rv_gate.proofs.LineSets.{bit_at-shr, below-Within, has-above, has-none}
use Rattle.rv_gate.proofs.CountOnes.{ones_halves, low_bit}
use Rattle.rv_gate.proofs.LowestLine.{IsLowest, still_there}
use Rattle.rv_real.specs.Text.{control_on, control_word, controls_from}

-- sets with the same lines from a line on have the same controls there
same_controls : (from : ℕ) (names : List (List ℕ)) (a b want : ℕ) → ((k : ℕ) → from ≤ k → k < from + length names → has a k ≡ has b k)
    → controls_from from names a want ≡ controls_from from names b want
same_controls from [] a b want same = refl
same_controls from (name ∷ names) a b want same =
    rw (same from (omega arith) (omega arith), same_controls (from + 1) names a b want (λ k above below. same k (omega arith) (omega arith))) refl

module _ (left line rest want : ℕ) (lowest : IsLowest left line rest) where
  lowest_from : (from i : ℕ) (names : List (List ℕ)) → line ≡ from + i → i < length names → from + length names ≤ 64
      → controls_from from names left want ≡ control_word (get_or names i []) (has want line) ∷ controls_from from names rest want
  lowest_from from i [] at inside few = absurd (omega arith)
  lowest_from from zero (name ∷ names) at inside few =
      let here : line ≡ from = omega arith in
      let on : has left from ≡ true = rw here at lowest.there in
      let off : has rest from ≡ false = rw here at lowest.gone in
      let later = same_controls (from + 1) names left rest want (λ k above below. sym (lowest.same k (omega arith) (λ e. omega arith))) in
      rw (on, off, here, later) refl
  lowest_from from (suc i) (name ∷ names) at inside few =
      let before : has left from ≡ false = lowest.least from (omega arith) in
      let still : has rest from ≡ false = lowest.same from (omega arith) (λ e. omega arith) ∙ before in
      rw (before, still) (lowest_from (from + 1) i names (omega arith) (omega arith) (omega arith))

  -- the lowest control comes first, and then those of the rest
  pub lowest_control : (names : List (List ℕ)) → line < length names → length names ≤ 64
      → controls_from 0 names left want ≡ control_word (get_or names line []) (has want line) ∷ controls_from 0 names rest want
  lowest_control names inside few = lowest_from 0 line names (omega arith) inside (omega arith)

  -- a set without its lowest line has no line that it didn't have
  pub rest_within : (n : ℕ) → Within left n → left < 2 ^ 64 → Within rest n
  rest_within n within small = λ k on. elim (cases_lt k 64) [
    | inl below ↦ within k (still_there left line rest lowest k below on)
    | inr above ↦ absurd (true≢false (sym on ∙ has-above rest 64 k (omega (arith, lowest.fewer)) above))
  ]

-- no controls
pub no_controls : (from : ℕ) (names : List (List ℕ)) (want : ℕ) → controls_from from names 0 want ≡ []
no_controls from [] want = refl
no_controls from (name ∷ names) want = rw (has-none from, no_controls (from + 1) names want) refl

counted : (b : Bool) (word : List ℕ) → length (cond b (word ∷ []) []) ≡ cond b 1 0
counted true word = refl
counted false word = refl

ones_from : (from : ℕ) (names : List (List ℕ)) (care want s : ℕ) → s ≡ care / 2 ^ from → s < 2 ^ length names → length (controls_from from names care want) ≡ count_ones s
ones_from from [] care want s is small = let le = ones_le_self s in omega arith
ones_from from (name ∷ names) care want s is small =
    let power : 2 ^ suc (length names) ≡ 2 * 2 ^ length names = omega arith in
    let half : s / 2 ≡ care / 2 ^ (from + 1) = ap (λ n. n / 2) is ∙ shr-shr care from 1 in
    let later = ones_from (from + 1) names care want (s / 2) half (omega arith) in
    let at : from + 0 ≡ from = omega arith in
    let first : has s 0 ≡ has care from = ap (λ n. has n 0) is ∙ ap (λ b. eqb b 1) (bit_at-shr care from 0 ∙ ap (bit_at care) at) in
    let here : length (control_on care want from name) ≡ s % 2 = counted (has care from) (control_word name (has want from)) ∙ low_bit (has care from) s first in
    omega (arith, length-append (control_on care want from name) (controls_from (from + 1) names care want), later, here, ones_halves s)

-- there is a control for each bit that is 1
pub controls_ones : (names : List (List ℕ)) (care want : ℕ) → Within care (length names) → length (controls_from 0 names care want) ≡ count_ones care
controls_ones names care want within = ones_from 0 names care want care (omega arith) (below-Within care (length names) within)
