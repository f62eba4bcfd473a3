-- The first answer, number by number.
use Rattle.std.proofs.Common.{◌≡◌, ℕ, zero, suc, ◌+◌, ◌-◌, ◌<◌, ◌≤◌, refl, sym, ◌∙◌, ap, inl, inr, arith}
use Rattle.std.specs.Option.{option_or}
use Rattle.std.specs.Prelude.{Option, None, Some}
use Rattle.std.proofs.lemmas.Bool.{cases_eq}
use Rattle.std.proofs.lemmas.Option.{none-some}
use Rattle.rv_gate.specs.FirstAnswer.{first}

pub first_suc : {A : Type 0} (f : ℕ → Option A) (k m : ℕ) → first f k (suc m) ≡ option_or (f k) (first f (k + 1) m)
unfolding first
first_suc f k m = refl

pub first_zero : {A : Type 0} (f : ℕ → Option A) (k : ℕ) → first f k 0 ≡ None
unfolding first
first_zero f k = refl

pub first_more : {A : Type 0} (f : ℕ → Option A) (k e : ℕ) → k < e → first f k (e - k) ≡ option_or (f k) (first f (k + 1) (e - (k + 1)))
first_more f k e h =
    let p : e - k ≡ suc (e - (k + 1)) = omega arith in
    ap (first f k) p ∙ first_suc f k _

pub first_end : {A : Type 0} (f : ℕ → Option A) (k e : ℕ) → e ≤ k → first f k (e - k) ≡ None
first_end f k e h = let p : e - k ≡ 0 = omega arith in ap (first f k) p ∙ first_zero f k

pub first_start : {A : Type 0} (f : ℕ → Option A) (e : ℕ) → first f 0 (e - 0) ≡ first f 0 e
first_start f e = let p : e - 0 ≡ e = omega arith in ap (first f 0) p

-- no answer at k, and the answer at k
pub first_skip : {A : Type 0} (f : ℕ → Option A) (k e : ℕ) (o : Option A) → k < e → f k ≡ None → first f k (e - k) ≡ o → first f (k + 1) (e - (k + 1)) ≡ o
first_skip f k e o h n i = sym (first_more f k e h ∙ ap (λ x. option_or x (first f (k + 1) (e - (k + 1)))) n) ∙ i

pub first_hit : {A : Type 0} (f : ℕ → Option A) (k e : ℕ) (o : Option A) (x : A) → k < e → f k ≡ Some x → first f k (e - k) ≡ o → Some x ≡ o
first_hit f k e o x h s i = sym (first_more f k e h ∙ ap (λ y. option_or y (first f (k + 1) (e - (k + 1)))) s) ∙ i

pub or_none : {A : Type 0} (o p : Option A) → option_or o p ≡ None → (o ≡ None) × (p ≡ None)
or_none None p h = (refl, h)
or_none (Some x) p h = absurd (none-some x (sym h))

-- there is no first answer where each number has none, and only there
pub none_first : {A : Type 0} (f : ℕ → Option A) (k m : ℕ) → ((i : ℕ) → k ≤ i → i < k + m → f i ≡ None) → first f k m ≡ None
unfolding first
none_first f k zero h = refl
none_first f k (suc m) h =
    ap (λ o. option_or o (first f (k + 1) m)) (h k (omega arith) (omega arith)) ∙ none_first f (k + 1) m (λ i a b. h i (omega arith) (omega arith))

pub none_at : {A : Type 0} (f : ℕ → Option A) (k m i : ℕ) → first f k m ≡ None → k ≤ i → i < k + m → f i ≡ None
unfolding first
none_at f k zero i e a b = absurd (omega arith)
none_at f k (suc m) i e a b =
    let both = or_none (f k) (first f (k + 1) m) e in
    elim (cases_eq k i) [
      | inl s ↦ sym (ap f s) ∙ both.0
      | inr ne ↦ none_at f (k + 1) m i both.1 (omega arith) (omega arith)
    ]
