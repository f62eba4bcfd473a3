-- A restart reaches the least set that is closed.
use Rattle.rv_gate.proofs.Bits.{and_false, same_bool}
use Rattle.std.proofs.Common.{◌≡◌, ℕ, zero, suc, ◌+◌, ◌<◌, ◌≤◌, ◌^◌, Bool, true, false, cond, ◌&&◌, ◌||◌, eqb, refl, sym, ap, ◌∙◌, arith, inl, inr, ◌⊎◌, not-suc-le-zero, eq-eqb}
use Rattle.std.specs.Prelude.{bit_and, bit_or}
use Rattle.std.proofs.lemmas.Bool.{cases_eq, cases_Bool, eqb-true, or_cases, or_left, or_right}
use Rattle.rv_gate.specs.Word.{has}
use Rattle.rv_gate.proofs.LineSets.{has-none, has-and, has-with_line, same_lines}
use Rattle.rv_fold.specs.Parities.{Parities, are_apart, closure_step, closure_steps, restart_set, IsClosed, IsLeastClosed}

pub true-false : (b : Bool) → b ≡ true → b ≡ false → ⊥
true-false true p q = let e : true ≡ false = q in cc
true-false false p q = let e : false ≡ true = p in cc

-- ---- one round

pub closure_step-more : (parities : Parities) (set line l : ℕ) → (b : Bool) → are_apart (parities line).lines set ≡ b → has (closure_step parities set (suc line)) l ≡ cond b (has (closure_step parities set line) l) (has (closure_step parities set line) l || eqb l line)
unfolding closure_step
closure_step-more parities set line l true e = ap (λ b. has (cond b (closure_step parities set line) (bit_or (closure_step parities set line) (2 ^ line))) l) e
closure_step-more parities set line l false e = ap (λ b. has (cond b (closure_step parities set line) (bit_or (closure_step parities set line) (2 ^ line))) l) e ∙ has-with_line (closure_step parities set line) line l

pub closure_step-keeps : (parities : Parities) (set k l : ℕ) → has set l ≡ true → has (closure_step parities set k) l ≡ true
closure_step-keeps parities set zero l h = unfold closure_step in h
closure_step-keeps parities set (suc k) l h =
    elim (cases_Bool (are_apart (parities k).lines set)) [
      | inl e ↦ closure_step-more parities set k l true e ∙ closure_step-keeps parities set k l h
      | inr e ↦ closure_step-more parities set k l false e ∙ or_left _ _ (closure_step-keeps parities set k l h)
    ]

pub closure_step-adds : (parities : Parities) (set k l : ℕ) → l < k → are_apart (parities l).lines set ≡ false → has (closure_step parities set k) l ≡ true
closure_step-adds parities set zero l h e = absurd (not-suc-le-zero h)
closure_step-adds parities set (suc k) l h e =
    elim (cases_eq l k) [
      | inl same ↦ closure_step-more parities set k l false (ap (λ m. are_apart (parities m).lines set) (sym same) ∙ e) ∙ or_right (has (closure_step parities set k) l) _ (eq-eqb l k same)
      | inr other ↦ (elim (cases_Bool (are_apart (parities k).lines set)) [
        | inl f ↦ closure_step-more parities set k l true f ∙ closure_step-adds parities set k l (omega arith) e
        | inr f ↦ closure_step-more parities set k l false f ∙ or_left _ _ (closure_step-adds parities set k l (omega arith) e)
      ])
    ]

pub closure_step-only : (parities : Parities) (set k l : ℕ) → has (closure_step parities set k) l ≡ true → (has set l ≡ true) ⊎ ((l < k) × (are_apart (parities l).lines set ≡ false))
closure_step-only parities set zero l h = inl (unfold closure_step in h)
closure_step-only parities set (suc k) l h =
    elim (cases_Bool (are_apart (parities k).lines set)) [
      | inl e ↦ wider (closure_step-only parities set k l (sym (closure_step-more parities set k l true e) ∙ h))
      | inr e ↦ (elim (or_cases _ _ (sym (closure_step-more parities set k l false e) ∙ h)) [
        | inl before ↦ wider (closure_step-only parities set k l before)
        | inr here ↦ let same : l ≡ k = eqb-true _ _ here in inr (omega arith, ap (λ m. are_apart (parities m).lines set) same ∙ e)
      ])
    ]
  where
    wider : (has set l ≡ true) ⊎ ((l < k) × (are_apart (parities l).lines set ≡ false)) → (has set l ≡ true) ⊎ ((l < suc k) × (are_apart (parities l).lines set ≡ false))
    wider (inl p) = inl p
    wider (inr p) = inr (omega (arith, p.0), p.1)

-- ---- n rounds are enough: each of them but the last adds a line

abbrev count : ℕ → (ℕ → Bool) → ℕ
count zero r = 0
count (suc n) r = cond (r n) 1 0 + count n r

-- s has no line below n that r lacks
abbrev Covers : ℕ → (ℕ → Bool) → (ℕ → Bool) → Type 0
Covers n r s = (l : ℕ) → l < n → r l ≡ false → s l ≡ false

count-le : (n : ℕ) (r : ℕ → Bool) → count n r ≤ n
count-le zero r = omega arith
count-le (suc n) r = go (r n) (count-le n r)
  where
    go : (b : Bool) → count n r ≤ n → cond b 1 0 + count n r ≤ suc n
    go true h = omega arith
    go false h = omega arith

abbrev Grows : (ℕ → Bool) → (ℕ → Bool) → Type 0
Grows r s = (l : ℕ) → r l ≡ true → s l ≡ true

covers_or_more : (n : ℕ) (r s : ℕ → Bool) → Grows r s → (Covers n r s × (count n r ≤ count n s)) ⊎ (count n r < count n s)
covers_or_more zero r s h = inl ((λ l k e. absurd (not-suc-le-zero k)), omega arith)
covers_or_more (suc n) r s h = go (r n) (s n) refl refl (h n) (covers_or_more n r s h)
  where
    go : (a b : Bool) → r n ≡ a → s n ≡ b → (a ≡ true → b ≡ true) → (Covers n r s × (count n r ≤ count n s)) ⊎ (count n r < count n s) → (Covers (suc n) r s × (cond a 1 0 + count n r ≤ cond b 1 0 + count n s)) ⊎ (cond a 1 0 + count n r < cond b 1 0 + count n s)
    go true true ea eb f (inr k) = inr (omega arith)
    go false true ea eb f (inr k) = inr (omega arith)
    go false false ea eb f (inr k) = inr (omega arith)
    go false true ea eb f (inl k) = inr (omega (arith, k.1))
    go true false ea eb f c = absurd (let e : false ≡ true = f refl in cc)
    go true true ea eb f (inl k) = inl (last ea, omega (arith, k.1))
      where
        last : r n ≡ true → Covers (suc n) r s
        last ea' l m e = elim (cases_eq l n) [ inl q ↦ absurd (let x : true ≡ false = sym ea' ∙ ap r (sym q) ∙ e in cc) | inr q ↦ k.0 l (omega arith) e ]
    go false false ea eb f (inl k) = inl ((λ l m e. elim (cases_eq l n) [ inl q ↦ ap s q ∙ eb | inr q ↦ k.0 l (omega arith) e ]), omega (arith, k.1))

closure_step-grows : (n : ℕ) (parities : Parities) (set : ℕ) → Grows (has set) (has (closure_step parities set n))
closure_step-grows n parities set l e = closure_step-keeps parities set n l e

abbrev pub Within : ℕ → ℕ → Type 0
Within a b = (l : ℕ) → has a l ≡ true → has b l ≡ true

pub apart-within : (f a b : ℕ) → Within a b → are_apart f b ≡ true → are_apart f a ≡ true
apart-within f a b w e = eq-eqb _ 0 (same_lines (bit_and f a) 0 (λ l. has-and f a l ∙ go l (has f l) (has a l) refl refl ∙ sym (has-none l)))
  where
    none : (l : ℕ) → (has f l && has b l) ≡ false
    none l = sym (has-and f b l) ∙ ap (λ s. has s l) (eqb-true _ _ e) ∙ has-none l

    go : (l : ℕ) (p q : Bool) → has f l ≡ p → has a l ≡ q → (p && q) ≡ false
    go l p q h h2 = grind (arith, none)

-- a round that adds nothing below n is followed by such rounds
persists : (n : ℕ) (parities : Parities) (set : ℕ) → Covers n (has set) (has (closure_step parities set n)) → Within (closure_step parities set n) set
persists n parities set h l on = grind (arith, closure_step-only, true-false)

settled_or_more : (n : ℕ) (parities : Parities) (set : ℕ) (k : ℕ) → Covers n (has (closure_steps n parities set k)) (has (closure_steps n parities set (suc k))) ⊎ (suc k ≤ count n (has (closure_steps n parities set (suc k))))
unfolding closure_steps
settled_or_more n parities set zero = elim (covers_or_more n (has set) (has (closure_step parities set n)) (closure_step-grows n parities set)) [ inl c ↦ inl c.0 | inr m ↦ inr (omega arith) ]
settled_or_more n parities set (suc k) =
    go (settled_or_more n parities set k) (covers_or_more n (has r) (has (closure_step parities r n)) (closure_step-grows n parities r))
  where
    r : ℕ
    r = closure_steps n parities set (suc k)

    q : ℕ
    q = closure_steps n parities set k

    go : Covers n (has (closure_steps n parities set k)) (has (closure_steps n parities set (suc k))) ⊎ (suc k ≤ count n (has r)) → (Covers n (has r) (has (closure_step parities r n)) × (count n (has r) ≤ count n (has (closure_step parities r n)))) ⊎ (count n (has r) < count n (has (closure_step parities r n))) → Covers n (has r) (has (closure_step parities r n)) ⊎ (suc (suc k) ≤ count n (has (closure_step parities r n)))
    go (inl c) m =
        inl (λ l lt out.
        let same : closure_step parities q n ≡ q = same_lines _ _ (λ j. same_bool (has (closure_step parities q n) j) (has q j) (persists n parities q c j) (closure_step-grows n parities q j)) in
        ap (λ s. has (closure_step parities s n) l) same ∙ out)
    go (inr h) (inl c) = inl c.0
    go (inr h) (inr m) = inr (omega arith)

settled : (n : ℕ) (parities : Parities) (set : ℕ) → Covers n (has (closure_steps n parities set n)) (has (closure_step parities (closure_steps n parities set n) n))
unfolding closure_steps
settled n parities set = elim (settled_or_more n parities set n) [ inl c ↦ c | inr m ↦ absurd (omega (arith, count-le n (has (closure_steps n parities set (suc n))))) ]

pub closure_steps-keeps : (n : ℕ) (parities : Parities) (set k l : ℕ) → has set l ≡ true → has (closure_steps n parities set k) l ≡ true
unfolding closure_steps
closure_steps-keeps n parities set zero l e = e
closure_steps-keeps n parities set (suc k) l e = closure_step-keeps parities (closure_steps n parities set k) n l (closure_steps-keeps n parities set k l e)

within_closed : (n : ℕ) (parities : Parities) (set other k : ℕ) → IsClosed n parities set other → Within (closure_steps n parities set k) other
unfolding closure_steps
within_closed n parities set other zero is l on = is.holds l on
within_closed n parities set other (suc k) is l on = let i0 = within_closed n parities set other k is l in let i1 = within_closed n parities set other k is in grind (arith, i0, i1, closure_step-only, true-false, apart-within)

-- n rounds reach the least closed set
pub restarts_least : (n : ℕ) (parities : Parities) (set : ℕ) → IsLeastClosed n parities set (restart_set n parities set)
restarts_least n parities set = record {
  itself = record {
    holds = λ l e. closure_steps-keeps n parities set n l e;
    closed = λ l lt meets.
        elim (cases_Bool (has (closure_steps n parities set n) l)) [
          | inl on ↦ on
          | inr out ↦ absurd (true-false _ (closure_step-adds parities (closure_steps n parities set n) n l lt meets) (settled n parities set l lt out))
        ];
  };
  least = λ other is. within_closed n parities set other n is;
}

pub apart_none : (a : ℕ) → are_apart a 0 ≡ true
apart_none a = eq-eqb _ 0 (same_lines (bit_and a 0) 0 (λ l. has-and a 0 l ∙ ap (λ t. has a l && t) (has-none l) ∙ and_false (has a l) ∙ sym (has-none l)))

-- nothing restarts nothing
pub closure_step_none : (parities : Parities) (k : ℕ) → closure_step parities 0 k ≡ 0
closure_step_none parities k = same_lines _ _ (λ l. go l (has (closure_step parities 0 k) l) refl ∙ sym (has-none l))
  where
    go : (l : ℕ) (b : Bool) → has (closure_step parities 0 k) l ≡ b → b ≡ false
    go l true e = absurd (elim (closure_step-only parities 0 k l e) [ inl p ↦ true-false _ p (has-none l) | inr p ↦ true-false _ (apart_none (parities l).lines) p.1 ])
    go l false e = refl

pub restart_none : (n : ℕ) (parities : Parities) (k : ℕ) → closure_steps n parities 0 k ≡ 0
unfolding closure_steps
restart_none n parities zero = refl
restart_none n parities (suc k) = ap (λ s. closure_step parities s n) (restart_none n parities k) ∙ closure_step_none parities n
