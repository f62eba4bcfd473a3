-- What holds for all numbers below one.
use Rattle.std.proofs.Common.{◌≡◌, ℕ, zero, suc, ◌+◌, ◌<◌, Bool, true, false, refl, sym, ◌∙◌, ap, inl, inr, arith}
use Rattle.std.proofs.lemmas.Bool.{cases_eq, cases_Bool, and_parts, and_from, false≢true}
use Rattle.rv_gate.specs.Gate.{all_below}

pub all_below-at : (p : ℕ → Bool) (n i : ℕ) → all_below p n ≡ true → i < n → p i ≡ true
all_below-at p zero i all l = absurd (omega arith)
all_below-at p (suc n) i all l =
    elim (cases_eq i n) [
      | inl same ↦ (ap p same ∙ (and_parts (p n) (all_below p n) all).0)
      | inr other ↦ all_below-at p n i (and_parts (p n) (all_below p n) all).1 (omega arith)
    ]

pub all_below-from : (p : ℕ → Bool) (n : ℕ) → ((i : ℕ) → i < n → p i ≡ true) → all_below p n ≡ true
all_below-from p zero each = refl
all_below-from p (suc n) each = and_from (p n) (all_below p n) (each n (omega arith)) (all_below-from p n (λ i l. each i (omega arith)))

pub all_below-more : (p : ℕ → Bool) (n : ℕ) → all_below p n ≡ true → p n ≡ true → all_below p (n + 1) ≡ true
all_below-more p n all on = let e : n + 1 ≡ suc n = omega arith in ap (all_below p) e ∙ and_from (p n) (all_below p n) on all

-- one number that fails is enough
pub all_below-fails : (p : ℕ → Bool) (n i : ℕ) → i < n → p i ≡ false → all_below p n ≡ false
all_below-fails p n i l off =
    elim (cases_Bool (all_below p n)) [
      | inl all ↦ absurd (false≢true (sym off ∙ all_below-at p n i all l))
      | inr fails ↦ fails
    ]

pub all_below-same : (p q : ℕ → Bool) (n : ℕ) → ((i : ℕ) → i < n → p i ≡ q i) → all_below p n ≡ all_below q n
all_below-same p q zero each = refl
all_below-same p q (suc n) each =
    let e = each n (omega arith) in
    let r = all_below-same p q n (λ i l. each i (omega arith)) in
    cc
