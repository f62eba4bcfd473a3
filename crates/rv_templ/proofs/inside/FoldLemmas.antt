-- Unions, sums and first answers, step by step.
use Rattle.std.proofs.Common.{◌≡◌, ℕ, zero, suc, ◌+◌, ◌<◌, ◌≤◌, Bool, true, false, cond, List, [], ◌∷◌, ◌++◌, length, refl, sym, ◌∙◌, ap, arith, append_assoc}
use Rattle.std.specs.Option.{option_or}
use Rattle.std.specs.Prelude.{bit_or, Option, Some, None}
use Rattle.std.proofs.lemmas.Bool.{false≢true, or_left, or_right, cond-false}
use Rattle.std.proofs.lemmas.Option.{none-some}
use Rattle.rv_gate.specs.declared.word.TheConstants.{MOST_LINES}
use Rattle.rv_gate.proofs.LineSets.{has-none, has-or}
use Rattle.rv_gate.specs.Word.{has}
use Rattle.rv_gate.specs.FirstAnswer.{first}
use Rattle.rv_templ.specs.Folds.{union_below, least}
use Rattle.rv_templ.specs.inside.Sums.{sum_below}
use Rattle.rv_gate.proofs.FirstAnswer.{first_suc, first_zero, none_first}

pub union_none : (f : ℕ → ℕ) → union_below f 0 ≡ 0
unfolding union_below
union_none f = refl

pub union_more : (f : ℕ → ℕ) (i : ℕ) → union_below f (i + 1) ≡ bit_or (union_below f i) (f i)
unfolding union_below
union_more f i = let e : i + 1 ≡ suc i = omega arith in ap (union_below f) e

pub sum_none : (f : ℕ → ℕ) → sum_below f 0 ≡ 0
unfolding sum_below
sum_none f = refl

pub sum_more : (f : ℕ → ℕ) (i : ℕ) → sum_below f (i + 1) ≡ sum_below f i + f i
unfolding sum_below
sum_more f i = let e : i + 1 ≡ suc i = omega arith in ap (sum_below f) e

-- a line of a union is a line of a part
pub union_part : (f : ℕ → ℕ) (n i line : ℕ) → i < n → has (f i) line ≡ true → has (union_below f n) line ≡ true
unfolding union_below
union_part f zero i line h e = absurd (omega arith)
union_part f (suc n) i line h e = let i0 = union_part f n i line in grind (arith, i0, has-or, or_left, or_right)

pub part_of_union : (f : ℕ → ℕ) (n line : ℕ) → has (union_below f n) line ≡ true → (i : ℕ) × (i < n) × (has (f i) line ≡ true)
unfolding union_below
part_of_union f zero line e = absurd (false≢true (sym (has-none line) ∙ e))
part_of_union f (suc n) line e = let i0 = part_of_union f n line in grind (arith, i0, has-or)

pub sum_each : (f g : ℕ → ℕ) (n : ℕ) → ((i : ℕ) → i < n → f i ≤ g i) → sum_below f n ≤ sum_below g n
unfolding sum_below
sum_each f g zero h = omega arith
sum_each f g (suc n) h = let r = sum_each f g n (λ i l. h i (omega arith)) in let t = h n (omega arith) in omega arith

-- ---- first answers

-- an answer is that of some number, and the numbers before it have none
abbrev pub FirstAt : {A : Type 0} → (ℕ → Option A) → ℕ → ℕ → A → Type 0
FirstAt f k m x = (i : ℕ) × (k ≤ i) × (i < k + m) × (f i ≡ Some x) × ((j : ℕ) → k ≤ j → j < i → f j ≡ None)

first_case : {A : Type 0} (f : ℕ → Option A) (k m : ℕ) (x : A) (o : Option A) → f k ≡ o → first f k (suc m) ≡ Some x
    → (first f (k + 1) m ≡ Some x → FirstAt f (k + 1) m x) → FirstAt f k (suc m) x
first_case f k m x (Some y) h e later =
    (k, omega arith, omega arith, h ∙ (sym (first_suc f k m ∙ ap (λ o. option_or o (first f (k + 1) m)) h) ∙ e), λ j a b. absurd (omega arith))
first_case f k m x None h e later = grind (arith, first_suc)

pub first_some : {A : Type 0} (f : ℕ → Option A) (k m : ℕ) (x : A) → first f k m ≡ Some x → FirstAt f k m x
first_some f k zero x e = absurd (none-some x (sym (first_zero f k) ∙ e))
first_some f k (suc m) x e = first_case f k m x (f k) refl e (λ h. first_some f (k + 1) m x h)

-- ---- the least list

pub least_end : (ok : List ℕ → Bool) (begun : List ℕ) → least ok 0 begun ≡ cond (ok begun) (Some begun) None
unfolding least
least_end ok begun = refl

pub least_step : (ok : List ℕ → Bool) (n : ℕ) (begun : List ℕ) → least ok (suc n) begun ≡ first (λ v. least ok n (begun ++ (v ∷ []))) 0 MOST_LINES
unfolding least
least_step ok n begun = refl

-- no list that goes on so passes
pub least_dead : (ok : List ℕ → Bool) (n : ℕ) (begun : List ℕ) → ((rest : List ℕ) → length rest ≡ n → ok (begun ++ rest) ≡ false) → least ok n begun ≡ None
least_dead ok zero begun h = least_end ok begun ∙ cond-false (ok begun) (Some begun) None (sym (ap ok (append_nil begun)) ∙ h [] refl)
  where
    append_nil : (l : List ℕ) → l ++ [] ≡ l
    append_nil [] = refl
    append_nil (x ∷ xs) = ap (λ t. x ∷ t) (append_nil xs)
least_dead ok (suc n) begun h =
    least_step ok n begun
    ∙ none_first (λ v. least ok n (begun ++ (v ∷ []))) 0 MOST_LINES (λ v a b.
    least_dead ok n (begun ++ (v ∷ [])) (λ rest len. ap ok (append_assoc begun (v ∷ []) rest) ∙ h (v ∷ rest) (ap suc len)))
