-- The fault at the least place below a number.
use Rattle.std.proofs.Common.{◌≡◌, ℕ, zero, suc, ◌+◌, ◌<◌, true, Option, Some, None, refl, sym, inl, inr, arith, add-one}
use Rattle.std.specs.Prelude.{is_some}
use Rattle.std.specs.Option.{option_or}
use Rattle.std.proofs.lemmas.Bool.{cases_eq, true≢false}
use Rattle.rv_reader.specs.FirstFault.{first_below}

module _ {F : Type 0} where
  pub first_below-zero : (fault : ℕ → Option F) → first_below fault 0 ≡ None
  unfolding first_below
  first_below-zero fault = refl

  pub first_below-none : (fault : ℕ → Option F) (n : ℕ) → ((k : ℕ) → k < n → fault k ≡ None) → first_below fault n ≡ None
  unfolding first_below
  first_below-none fault zero h = refl
  first_below-none fault (suc n) h = rw (first_below-none fault n (λ k lt. h k (omega arith))) (h n (omega arith))

  pub first_below-more : (fault : ℕ → Option F) (n : ℕ) → first_below fault n ≡ None → first_below fault (n + 1) ≡ fault n
  unfolding first_below
  first_below-more fault n h = rw (add-one, h) refl

  pub first_below-found : (fault : ℕ → Option F) (n k : ℕ) → k < n → first_below fault k ≡ None → is_some (fault k) ≡ true → first_below fault n ≡ fault k
  unfolding first_below
  first_below-found fault zero k lt none some = absurd (omega arith)
  first_below-found fault (suc n) k lt none some = elim (cases_eq k n) [
    | inl here ↦ rw (← here, none) refl
    | inr before ↦ rw (first_below-found fault n k (omega arith) none some) (kept (fault k) (fault n) some)
  ]
    where
      kept : (a b : Option F) → is_some a ≡ true → option_or a b ≡ a
      kept (Some a) b h = refl
      kept None b h = absurd (true≢false (sym h))
