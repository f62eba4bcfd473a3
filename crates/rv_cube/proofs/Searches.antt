-- The search for the first answer.
use Rattle.std.proofs.Common.{◌≡◌, ℕ, suc, ◌+◌, ◌-◌, ◌<◌, ◌≤◌, refl, ◌∙◌, ap, arith, zero, Bool, true, false, cond, List, length, subst}
use Rattle.std.specs.Option.{option_or}
use Rattle.std.specs.Prelude.{Option, None, Some, option_map}
use Rattle.rv_gate.specs.FirstAnswer.{first}
use Rattle.rv_cube.specs.declared.step.Step.{Step}
use Rattle.std.proofs.lemmas.Option.{none-some, same_Some}
use Rattle.rv_pla.specs.declared.cube.Cube.{Cube}
use Rattle.rv_cube.specs.Reduction.{first_pair}

pub cond_none : {A : Type 0} (t : Bool) (o : Option A) → (t ≡ true → o ≡ None) → cond t o None ≡ None
cond_none t o h = grind arith

-- ---- what holds of each answer

abbrev pub Finds : {A : Type 0} → (A → Type 0) → Option A → Type 0
Finds {A} G answer = (x : A) → answer ≡ Some x → G x

pub finds_else : {A : Type 0} (G : A → Type 0) (o p : Option A) → Finds G o → Finds G p → Finds G (option_or o p)
finds_else G o p h h2 = grind arith

pub finds_first : {A : Type 0} (G : A → Type 0) (f : ℕ → Option A) (k m : ℕ) → ((i : ℕ) → k ≤ i → i < k + m → Finds G (f i)) → Finds G (first f k m)
unfolding first
finds_first G f k zero h = λ x e. absurd (none-some x e)
finds_first G f k (suc m) h =
    finds_else G (f k) (first f (k + 1) m) (h k (omega arith) (omega arith)) (finds_first G f (k + 1) m (λ i l u. h i (omega arith) (omega arith)))

pub finds_none : {A : Type 0} (G : A → Type 0) → Finds G None
finds_none G x e = absurd (none-some x e)

pub finds_map : {A B : Type 0} (f : A → B) (G : B → Type 0) (o : Option A) → Finds (λ x. G (f x)) o → Finds G (option_map f o)
finds_map f G None h = finds_none G
finds_map f G (Some y) h = λ x e. subst G (same_Some (f y) x e) (h y refl)

pub finds_if : {A : Type 0} (G : A → Type 0) (t : Bool) (c : A) → (t ≡ true → G c) → Finds G (cond t (Some c) None)
finds_if G true c h x e = let s : c ≡ x = cc in subst G s (h refl)
finds_if G false c h x e = absurd (none-some x e)

pub finds_cond : {A : Type 0} (G : A → Type 0) (t : Bool) (o : Option A) → (t ≡ true → Finds G o) → Finds G (cond t o None)
finds_cond G true o h = h refl
finds_cond G false o h = finds_none G

-- the first pair of places
pub finds_pair : {A : Type 0} (G : A → Type 0) (f : ℕ → ℕ → Option A) (cubes : List Cube)
    → ((a b : ℕ) → a < b → b < length cubes → Finds G (f a b)) → Finds G (first_pair f cubes)
finds_pair G f cubes h =
    finds_first G _ 0 (length cubes) (λ a l u. finds_first G (f a) (a + 1) (length cubes - (a + 1)) (λ b lb ub. h a b (omega arith) (omega arith)))

-- ---- the least number that has an answer

abbrev pub IsLeastAnswer : {A : Type 0} → (ℕ → Option A) → ℕ → ℕ → A → Type 0
IsLeastAnswer f k m x = (i : ℕ) × (k ≤ i) × (i < k + m) × (f i ≡ Some x) × ((j : ℕ) → k ≤ j → j < i → f j ≡ None)

first_is_or : {A : Type 0} (f : ℕ → Option A) (k m : ℕ) (x : A) (o : Option A) → f k ≡ o → option_or o (first f (k + 1) m) ≡ Some x
    → (first f (k + 1) m ≡ Some x → IsLeastAnswer f (k + 1) m x) → IsLeastAnswer f k (suc m) x
first_is_or f k m x (Some y) s h rest = (k, omega arith, omega arith, s ∙ h, λ j l u. absurd (omega arith))
first_is_or f k m x None s h rest = grind (arith)

pub first_is : {A : Type 0} (f : ℕ → Option A) (k m : ℕ) (x : A) → first f k m ≡ Some x → IsLeastAnswer f k m x
unfolding first
first_is f k zero x e = absurd (none-some x e)
first_is f k (suc m) x e = first_is_or f k m x (f k) refl e (first_is f (k + 1) m x)

-- a test as an answer
pub passes_some : (t : Bool) (x y : ℕ) → cond t (Some x) None ≡ Some y → t ≡ true
passes_some t x y h = grind arith

pub first_found : {A : Type 0} (f : ℕ → Option A) (k m a : ℕ) (x : A) → k ≤ a → a < k + m → f a ≡ Some x
    → ((i : ℕ) → k ≤ i → i < a → f i ≡ None) → first f k m ≡ Some x
unfolding first
first_found f k zero a x le lt is before = absurd (omega arith)
first_found f k (suc m) a x le lt is before = let i0 = first_found f (k + 1) m a x in grind (arith, i0)

pub first_same : {A : Type 0} (f g : ℕ → Option A) (k m : ℕ) → ((i : ℕ) → f i ≡ g i) → first f k m ≡ first g k m
unfolding first
first_same f g k zero h = refl
first_same f g k (suc m) h = ap (λ o. option_or o (first f (k + 1) m)) (h k) ∙ ap (option_or (g k)) (first_same f g (k + 1) m h)

pub option_or-map : {A B : Type 0} (h : A → B) (o p : Option A) → option_or (option_map h o) (option_map h p) ≡ option_map h (option_or o p)
option_or-map h o p = grind arith

pub first-map : (h : Step → Step) (f : ℕ → Option Step) (k m : ℕ) → first (λ i. option_map h (f i)) k m ≡ option_map h (first f k m)
unfolding first
first-map h f k zero = refl
first-map h f k (suc m) = ap (option_or (option_map h (f k))) (first-map h f (k + 1) m) ∙ option_or-map h (f k) (first f (k + 1) m)
