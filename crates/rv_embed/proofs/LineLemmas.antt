-- The least power of two that is enough.
use Rattle.std.proofs.Common.{◌≡◌, ℕ, ◌^◌, ◌<◌, ◌≤◌, Bool, true, false, not, ltb, List, length, get_or, sym, ap, ◌∙◌, inl, inr, arith, zero-add}
use Rattle.std.specs.List.{position_or_len, range_with_len}
use Rattle.std.proofs.lemmas.List.FromFn.{length-range_with_len, get_or-range_with_len}
use Rattle.std.proofs.lemmas.List.Sums.{passes_at_first, fails_before_first, prefix_len-le-length}
use Rattle.std.proofs.lemmas.Bool.{cases_lt, false≢true, le-ltb, ltb-false, not-true}
use Rattle.rv_embed.specs.LeastBelow.{least_below}
use Rattle.rv_embed.specs.Embedding.{least_power}
use Rattle.rv_gate.proofs.Bits.{below_power}

-- ---- the least number that passes

pub least_below-passes : (p : ℕ → Bool) (n : ℕ) → least_below p n < n → p (least_below p n) ≡ true
least_below-passes p n h =
    let numbers : List ℕ = range_with_len 0 n in
    let within : position_or_len p numbers < length numbers = omega (arith, length-range_with_len 0 n) in
    let at : get_or numbers (least_below p n) 0 ≡ least_below p n = get_or-range_with_len 0 n (least_below p n) 0 h ∙ zero-add (least_below p n) in
    ap p (sym at) ∙ passes_at_first p numbers 0 within

pub least_below-least : (p : ℕ → Bool) (n g : ℕ) → p g ≡ true → least_below p n ≤ g
least_below-least p n g on =
    let numbers : List ℕ = range_with_len 0 n in
    elim (cases_lt g (least_below p n)) [
      | inl before ↦
          let few : least_below p n ≤ n = omega (arith, prefix_len-le-length (λ k. not (p k)) numbers, length-range_with_len 0 n) in
          let off : p (get_or numbers g 0) ≡ false = fails_before_first p numbers g 0 before in
          let at : get_or numbers g 0 ≡ g = get_or-range_with_len 0 n g 0 (omega arith) ∙ zero-add g in
          absurd (false≢true (sym off ∙ ap p at ∙ on))
      | inr past ↦ past
    ]

-- ---- the least power

is_enough : (m g : ℕ) → m ≤ 2 ^ g → not (ltb (2 ^ g) m) ≡ true
is_enough m g h = ap not (le-ltb (2 ^ g) m h)

pub least_power-least : (m g : ℕ) → m ≤ 2 ^ g → least_power m ≤ g
unfolding least_power
least_power-least m g h = least_below-least (λ g. not (ltb (2 ^ g) m)) m g (is_enough m g h)

pub least_power-enough : (m : ℕ) → m ≤ 2 ^ least_power m
unfolding least_power
least_power-enough m =
    grind (arith, least_power-least, below_power, cases_lt, least_power, ltb-false, not-true, least_below-passes)

-- the first power that is enough
pub least_power-is : (m g : ℕ) → m ≤ 2 ^ g → ((j : ℕ) → j < g → 2 ^ j < m) → least_power m ≡ g
least_power-is m g h none =
    let l = least_power-least m g h in
    elim (cases_lt (least_power m) g) [
      | inl below ↦ absurd (let p = none (least_power m) below in let q = least_power-enough m in omega arith)
      | inr same ↦ omega arith
    ]
