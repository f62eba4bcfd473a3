-- In which inputs two cubes differ, and in how many.
use Rattle.std.proofs.Common.{◌≡◌, ◌≢◌, ◌&&◌, ◌||◌, ℕ, zero, suc, ◌+◌, ◌<◌, ◌≤◌, Bool, true, false, not, cond, List, [], ◌∷◌, ◌++◌, length, refl, sym, ◌∙◌, ap, subst, inl, inr, arith, add-one, append-nil}
use Rattle.std.specs.Prelude.{bit_and, bit_or, bit_xor}
use Rattle.std.proofs.lemmas.Bool.{cases_Bool, cases_eq, false≢true, not-false}
use Rattle.rv_gate.specs.Word.{has}
use Rattle.rv_gate.specs.Gate.{xor}
use Rattle.rv_gate.proofs.LineSets.{has-and, has-or, has-xor}
use Rattle.rv_gate.proofs.Ranges.{filter-suc}
use Rattle.rv_pla.specs.Cube.{Symbol, symbol, symbol_of}
use Rattle.rv_pla.specs.declared.cube.Cube.{Cube}
use Rattle.rv_cube.specs.Distance.{is_same, differs, differing}
use Rattle.rv_cube.specs.Settled.{DifferInTwo}
use Rattle.rv_cube.specs.declared.distance.Apart.{Apart}
use Rattle.rv_cube.specs.inside.Apart.{Tells, apart_of, further}
use Rattle.rv_cube.proofs.Symbols.{is_same-true}

-- ---- whether they differ in an input

pub is_same-self : (s : Symbol) → is_same s s ≡ true
is_same-self s = grind arith

pub differs-same : (a b : Cube) (i : ℕ) → symbol a i ≡ symbol b i → differs a b i ≡ false
differs-same a b i e = ap (λ s. not (is_same s (symbol b i))) e ∙ ap not (is_same-self (symbol b i))

pub differs-not : (a b : Cube) (i : ℕ) → differs a b i ≡ false → symbol a i ≡ symbol b i
differs-not a b i h = is_same-true (symbol a i) (symbol b i) (not-false _ h)

pub is_same-comm : (s t : Symbol) → is_same s t ≡ is_same t s
is_same-comm s t = grind arith

pub differs-comm : (a b : Cube) (i : ℕ) → differs a b i ≡ differs b a i
differs-comm a b i = ap not (is_same-comm (symbol a i) (symbol b i))

-- ---- the inputs in which they differ

append-cond : (xs : List ℕ) (n : ℕ) (t : Bool) → xs ++ cond t (n ∷ []) [] ≡ cond t (xs ++ n ∷ []) xs
append-cond xs n true = refl
append-cond xs n false = append-nil xs

-- one more input
pub differing-suc : (n : ℕ) (a b : Cube) → differing (suc n) a b ≡ cond (differs a b n) (differing n a b ++ n ∷ []) (differing n a b)
unfolding differing
differing-suc n a b = filter-suc (differs a b) n ∙ append-cond (differing n a b) n (differs a b n)

pub differing-none : (a b : Cube) → differing 0 a b ≡ []
unfolding differing
differing-none a b = refl

pub differing-comm : (n : ℕ) (a b : Cube) → differing n a b ≡ differing n b a
differing-comm zero a b = differing-none a b ∙ sym (differing-none b a)
differing-comm (suc n) a b = let i0 = differing-comm n a b in grind (arith, i0, differing-suc, differs-comm)

abbrev pub IsDiffering : Cube → Cube → ℕ → List ℕ → Type 0
IsDiffering a b n [] = (i : ℕ) → i < n → symbol a i ≡ symbol b i
IsDiffering a b n (p ∷ []) = (p < n) × (differs a b p ≡ true) × ((i : ℕ) → i < n → i ≢ p → symbol a i ≡ symbol b i)
IsDiffering a b n (p ∷ q ∷ []) =
    (p < q) × (q < n) × (differs a b p ≡ true) × (differs a b q ≡ true) × ((i : ℕ) → i < n → i ≢ p → i ≢ q → symbol a i ≡ symbol b i)
IsDiffering a b n (p ∷ q ∷ r ∷ rest) = (p < q) × (q < r) × (r < n) × (differs a b p ≡ true) × (differs a b q ≡ true) × (differs a b r ≡ true)

further_is : (a b : Cube) (n : ℕ) (x : List ℕ) → IsDiffering a b n x → differs a b n ≡ true → IsDiffering a b (suc n) (x ++ n ∷ [])
further_is a b n x h h2 = grind arith

-- one more input in which they are the same
more_same : (a b : Cube) (n i : ℕ) → i < suc n → differs a b n ≡ false → (i < n → symbol a i ≡ symbol b i) → symbol a i ≡ symbol b i
more_same a b n i l d h = elim (cases_eq i n) [ inl e ↦ rw e (differs-not a b n d) | inr ne ↦ h (omega arith) ]

alike_is : (a b : Cube) (n : ℕ) (x : List ℕ) → IsDiffering a b n x → differs a b n ≡ false → IsDiffering a b (suc n) x
alike_is a b n x h h2 = grind (arith, more_same)

choice_is : (a b : Cube) (n : ℕ) (x : List ℕ) (t : Bool) → differs a b n ≡ t → IsDiffering a b n x → IsDiffering a b (suc n) (cond t (x ++ n ∷ []) x)
choice_is a b n x true d h = further_is a b n x h d
choice_is a b n x false d h = alike_is a b n x h d

pub differing_is : (n : ℕ) (a b : Cube) → IsDiffering a b n (differing n a b)
differing_is zero a b = let P : List ℕ → Type 0 = λ y. IsDiffering a b 0 y in subst P (sym (differing-none a b)) (λ i l. absurd (omega arith))
differing_is (suc n) a b = let i0 = differing_is n a b in grind (arith, i0, differing-suc, choice_is)

pub differing_as : (n : ℕ) (a b : Cube) (x : List ℕ) → differing n a b ≡ x → IsDiffering a b n x
differing_as n a b x e = let P : List ℕ → Type 0 = λ y. IsDiffering a b n y in subst P e (differing_is n a b)

pub differ_not : (x y : Cube) (i : ℕ) → differs x y i ≡ true → symbol x i ≡ symbol y i → ⊥
differ_not x y i d e = false≢true (sym (differs-same x y i e) ∙ d)

-- these are all such inputs, where they are at most two
differing_list : (n : ℕ) (x y : Cube) (xs ys : List ℕ) → IsDiffering x y n xs → length xs ≤ 2 → IsDiffering x y n ys → ys ≡ xs
differing_list n x y xs ys h few k = grind (arith, cases_eq, differ_not)

pub differing_only : (n : ℕ) (x y : Cube) (xs : List ℕ) → IsDiffering x y n xs → length xs ≤ 2 → differing n x y ≡ xs
differing_only n x y xs h few = differing_list n x y xs (differing n x y) h few (differing_is n x y)

-- of three of them one is neither u nor v
pub not_three : (n : ℕ) (x y : Cube) (u v p q r : ℕ) (rest : List ℕ) → ((i : ℕ) → i < n → i ≢ u → i ≢ v → symbol x i ≡ symbol y i)
    → IsDiffering x y n (p ∷ q ∷ r ∷ rest) → ⊥
not_three n x y u v p q r rest h is = grind (arith, cases_eq, differ_not)

-- ---- what the code tells of them

apart_by : (a x b y : Bool) → (xor a b || (a && xor x y)) ≡ not (is_same (symbol_of a x) (symbol_of b y))
apart_by a x b y = grind arith

-- the set of the inputs in which two cubes differ
pub apart_has : (a b : Cube) (i : ℕ) → has (bit_or (bit_xor a.care b.care) (bit_and a.care (bit_xor a.want b.want))) i ≡ differs a b i
apart_has a b i = grind (arith, has-or, bit_xor, bit_and, has-xor, has-and, apart_by)

apart_of-more : (xs : List ℕ) (n : ℕ) → apart_of (xs ++ n ∷ []) ≡ further (apart_of xs) n
apart_of-more xs n = grind arith

apart_of-cond : (t : Bool) (xs : List ℕ) (n : ℕ) → apart_of (cond t (xs ++ n ∷ []) xs) ≡ cond t (further (apart_of xs) n) (apart_of xs)
apart_of-cond true xs n = apart_of-more xs n
apart_of-cond false xs n = refl

apart_of-differing_more : (n : ℕ) (a b : Cube) → apart_of (differing (n + 1) a b) ≡ cond (differs a b n) (further (apart_of (differing n a b)) n) (apart_of (differing n a b))
apart_of-differing_more n a b = ap (λ k. apart_of (differing k a b)) (add-one n) ∙ ap apart_of (differing-suc n a b) ∙ apart_of-cond (differs a b n) (differing n a b) n

pub apart_next : (n : ℕ) (a b : Cube) (found new : Apart) (t : Bool) → differs a b n ≡ t → found ≡ apart_of (differing n a b)
    → new ≡ cond t (further found n) found → new ≡ apart_of (differing (n + 1) a b)
apart_next n a b found new t d e h = grind (arith, apart_of, apart_of-differing_more)

tells_list : (n : ℕ) (a b : Cube) (xs : List ℕ) → IsDiffering a b n xs → Tells n xs (apart_of xs)
tells_list n a b xs h = grind arith

pub tells : (n : ℕ) (a b : Cube) → Tells n (differing n a b) (apart_of (differing n a b))
tells n a b = tells_list n a b (differing n a b) (differing_is n a b)

-- ---- in two inputs, in any order

pub differs-true : (x y : Cube) (p : ℕ) → symbol x p ≢ symbol y p → differs x y p ≡ true
differs-true x y p ne = elim (cases_Bool (differs x y p)) [ inl t ↦ t | inr f ↦ absurd (ne (differs-not x y p f)) ]

pub both_from : (n : ℕ) (x y : Cube) (p q : ℕ) → IsDiffering x y n (p ∷ q ∷ []) → DifferInTwo n x y p q
both_from n x y p q is = grind (arith, differ_not)

pub both_other : (n : ℕ) (x y : Cube) (p q : ℕ) → DifferInTwo n x y p q → DifferInTwo n y x p q
both_other n x y p q d = grind arith

pub both_back : (n : ℕ) (x y : Cube) (p q : ℕ) → DifferInTwo n x y p q → DifferInTwo n x y q p
both_back n x y p q d = grind arith

-- what a walk over the inputs tells
pub ruleset told = (tells, apart_next, differing-none)
