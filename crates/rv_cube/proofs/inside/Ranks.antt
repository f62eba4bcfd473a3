-- The cube of a full slot has a place in the list, its list_place.
use Rattle.std.proofs.lemmas.Grind.{common_steps}
use Rattle.std.proofs.Common.{◌≡◌, ◌≢◌, ℕ, zero, suc, ◌+◌, ◌-◌, ◌<◌, ◌≤◌, Bool, true, false, cond, eqb, List, ◌∷◌, ◌++◌, length, set, take, drop, refl, sym, ◌∙◌, ap, inl, inr, arith, eq-eqb, ne_eqb, length-set}
use Rattle.std.specs.Option.{option_or}
use Rattle.std.specs.Prelude.{Option, None, Some, nat_lt}
use Rattle.std.specs.List.{remove}
use Rattle.std.proofs.lemmas.Bool.{cases_eq, cases_lt, lt-ltb, le-ltb}
use Rattle.std.proofs.lemmas.List.{get_or_past, set-get_or, set_split, take_all, take-set-le, get_or-take}
use Rattle.std.proofs.lemmas.List.Edits.{remove-append_right}
use Rattle.std.proofs.lemmas.List.Elements.{filter-append}
use Rattle.std.proofs.lemmas.List.Filters.{length-filter_more}
use Rattle.std.proofs.Math.Seq.{set-append_seam, get_or-append_seam, take-set-lt}
use Rattle.rv_pla.specs.declared.cube.Cube.{Cube}
use Rattle.rv_cube.specs.Esop.{terms_of}
use Rattle.rv_gate.specs.FirstAnswer.{first}
use Rattle.rv_cube.specs.Reduction.{no_cube, at}
use Rattle.rv_cube.specs.inside.Slots.{carries, full, list_place}
use Rattle.rv_gate.proofs.FirstAnswer.{first_more, first_end, none_first}
use Rattle.rv_cube.proofs.Searches.{cond_none, first_found}
use Rattle.rv_cube.proofs.inside.Full.{full_within}

-- ---- the list around a slot

around : (slots : List Cube) (i : ℕ) (cube : Cube) (t : Bool) → i < length slots → carries cube ≡ t
    → terms_of (set slots i cube) ≡ terms_of (take i slots) ++ cond t (cube ∷ terms_of (drop (suc i) slots)) (terms_of (drop (suc i) slots))
around slots i cube t h c = grind (arith, terms_of, set_split, filter-append)

terms_of-split : (slots : List Cube) (i : ℕ) → full slots i ≡ true
    → terms_of slots ≡ terms_of (take i slots) ++ at slots i ∷ terms_of (drop (suc i) slots)
terms_of-split slots i h = sym (ap terms_of (set-get_or slots i no_cube)) ∙ around slots i (at slots i) true (full_within slots i h) h

pub at-rank : (slots : List Cube) (i : ℕ) → full slots i ≡ true → at (terms_of slots) (list_place slots i) ≡ at slots i
at-rank slots i h =
    ap (λ l. at l (list_place slots i)) (terms_of-split slots i h)
    ∙ get_or-append_seam (terms_of (take i slots)) (at slots i) (terms_of (drop (suc i) slots)) no_cube

-- another cube in a full slot, and none
pub terms_of-set : (slots : List Cube) (i : ℕ) (cube : Cube) → full slots i ≡ true → carries cube ≡ true
    → terms_of (set slots i cube) ≡ set (terms_of slots) (list_place slots i) cube
terms_of-set slots i cube h c =
    around slots i cube true (full_within slots i h) c
    ∙ sym (ap (λ l. set l (list_place slots i) cube) (terms_of-split slots i h)
    ∙ set-append_seam (terms_of (take i slots)) (at slots i) (terms_of (drop (suc i) slots)) cube)

remove_seam : (xs ys : List Cube) (y : Cube) → remove (xs ++ y ∷ ys) (length xs) ≡ xs ++ ys
remove_seam xs ys y =
    let z : length xs - length xs ≡ 0 = omega arith in
    remove-append_right xs (y ∷ ys) (length xs) (length xs) refl (omega arith) ∙ ap (λ i. xs ++ remove (y ∷ ys) i) z

pub terms_of-remove : (slots : List Cube) (i : ℕ) (cube : Cube) → full slots i ≡ true → carries cube ≡ false
    → terms_of (set slots i cube) ≡ remove (terms_of slots) (list_place slots i)
terms_of-remove slots i cube h c =
    around slots i cube false (full_within slots i h) c
    ∙ sym (ap (λ l. remove l (list_place slots i)) (terms_of-split slots i h)
    ∙ remove_seam (terms_of (take i slots)) (terms_of (drop (suc i) slots)) (at slots i))

-- ---- ranks

rank-end : (slots : List Cube) (k : ℕ) → length slots ≤ k → list_place slots k ≡ length (terms_of slots)
rank-end slots k h = ap (λ l. length (terms_of l)) (take_all k slots h)

rank-next : (slots : List Cube) (i : ℕ) → list_place slots (i + 1) ≡ list_place slots i + cond (full slots i) 1 0
rank-next slots i =
    grind (arith, common_steps, cases_lt, length-filter_more, no_cube, list_place, rank-end, get_or_past)

rank-next_full : (slots : List Cube) (i : ℕ) → full slots i ≡ true → list_place slots (i + 1) ≡ list_place slots i + 1
rank-next_full slots i h = rank-next slots i ∙ ap (λ t. list_place slots i + cond {A = ℕ} t 1 0) h

rank-next_empty : (slots : List Cube) (i : ℕ) → full slots i ≡ false → list_place slots (i + 1) ≡ list_place slots i
rank-next_empty slots i h = grind (arith, list_place, rank-next)

rank-add : (slots : List Cube) (i m : ℕ) → list_place slots i ≤ list_place slots (i + m)
rank-add slots i zero = let e : list_place slots (i + zero) ≡ list_place slots i = (let z : i + zero ≡ i = omega arith in ap (list_place slots) z) in omega arith
rank-add slots i (suc m) =
    let e : list_place slots (i + suc m) ≡ list_place slots (i + m + 1) = (let z : i + suc m ≡ i + m + 1 = omega arith in ap (list_place slots) z) in
    let s = rank-next slots (i + m) in
    let r = rank-add slots i m in
    omega arith

rank-le : (slots : List Cube) (i j : ℕ) → i ≤ j → list_place slots i ≤ list_place slots j
rank-le slots i j h =
    let e : list_place slots (i + (j - i)) ≡ list_place slots j = (let z : i + (j - i) ≡ j = omega arith in ap (list_place slots) z) in
    let r = rank-add slots i (j - i) in
    omega arith

rank-lt : (slots : List Cube) (i j : ℕ) → full slots i ≡ true → i < j → list_place slots i < list_place slots j
rank-lt slots i j h lt =
    let s = rank-next_full slots i h in
    let r = rank-le slots (i + 1) j (omega arith) in
    omega arith

pub rank_within : (slots : List Cube) (i : ℕ) → full slots i ≡ true → list_place slots i < length (terms_of slots)
rank_within slots i h =
    let lt = full_within slots i h in
    let r = rank-lt slots i (length slots) h lt in
    let e = rank-end slots (length slots) (omega arith) in
    omega arith

rank-ne : (slots : List Cube) (i j : ℕ) → full slots i ≡ true → full slots j ≡ true → i ≢ j → list_place slots i ≢ list_place slots j
rank-ne slots i j hi hj ne e =
    elim (cases_lt i j) [
      | inl lt ↦ (let r = rank-lt slots i j hi lt in absurd (omega arith))
      | inr ge ↦ (let r = rank-lt slots j i hj (omega arith) in absurd (omega arith))
    ]

pub eqb-rank : (slots : List Cube) (i j : ℕ) → full slots i ≡ true → full slots j ≡ true → eqb (list_place slots i) (list_place slots j) ≡ eqb i j
eqb-rank slots i j hi hj = grind (arith, cases_eq, eq-eqb, list_place, ne_eqb, rank-ne)

pub lt-rank : (slots : List Cube) (i j : ℕ) → full slots i ≡ true → nat_lt (list_place slots i) (list_place slots j) ≡ nat_lt i j
lt-rank slots i j hi =
    elim (cases_lt i j) [
      | inl lt ↦ lt-ltb _ _ (rank-lt slots i j hi lt) ∙ sym (lt-ltb i j lt)
      | inr ge ↦ le-ltb _ _ (rank-le slots j i ge) ∙ sym (le-ltb i j ge)
    ]

-- ---- ranks after a slot is set

pub rank_set-before : (slots : List Cube) (i j : ℕ) (cube : Cube) → j ≤ i → list_place (set slots i cube) j ≡ list_place slots j
rank_set-before slots i j cube h = ap (λ l. length (terms_of l)) (take-set-le j slots i cube h)

pub rank_set : (slots : List Cube) (i j : ℕ) (cube : Cube) → full slots i ≡ true → carries cube ≡ true → list_place (set slots i cube) j ≡ list_place slots j
rank_set slots i j cube h c = grind (arith, get_or-take, take-set-lt, terms_of-set, length-set, rank_set-before)

-- ---- a search of the list is a search of the full slots

abbrev pub by_rank : {A : Type 0} → (ℕ → Option A) → List Cube → ℕ → Option A
by_rank f slots i = cond (full slots i) (f (list_place slots i)) None

first-rank_at : {A : Type 0} (f : ℕ → Option A) (slots : List Cube) (k : ℕ) (t : Bool) → full slots k ≡ t → k < length slots
    → first f (list_place slots (k + 1)) (length (terms_of slots) - list_place slots (k + 1)) ≡ first (by_rank f slots) (k + 1) (length slots - (k + 1))
    → first f (list_place slots k) (length (terms_of slots) - list_place slots k) ≡ first (by_rank f slots) k (length slots - k)
first-rank_at f slots k t h h1 h2 =
    grind (arith, terms_of, first_more, list_place, rank_within, option_or, rank-next_full, rank-next_empty)

first-rank_end : {A : Type 0} (f : ℕ → Option A) (slots : List Cube) (k : ℕ) → length slots ≤ k
    → first f (list_place slots k) (length (terms_of slots) - list_place slots k) ≡ first (by_rank f slots) k (length slots - k)
first-rank_end f slots k h = grind (arith, rank-end, first_end, list_place, terms_of)

first-rank_for : {A : Type 0} (f : ℕ → Option A) (slots : List Cube) (k m : ℕ) → length slots ≤ k + m
    → first f (list_place slots k) (length (terms_of slots) - list_place slots k) ≡ first (by_rank f slots) k (length slots - k)
first-rank_for f slots k zero h = first-rank_end f slots k (omega arith)
first-rank_for f slots k (suc m) h = let i0 = first-rank_for f slots (k + 1) m in grind (arith, i0, first-rank_at, first-rank_end)

first-rank : {A : Type 0} (f : ℕ → Option A) (slots : List Cube) (k : ℕ)
    → first f (list_place slots k) (length (terms_of slots) - list_place slots k) ≡ first (by_rank f slots) k (length slots - k)
first-rank f slots k = first-rank_for f slots k (length slots) (omega arith)

pub first-rank_all : {A : Type 0} (f : ℕ → Option A) (slots : List Cube) → first f 0 (length (terms_of slots)) ≡ first (by_rank f slots) 0 (length slots)
first-rank_all f slots =
    let z : length (terms_of slots) ≡ length (terms_of slots) - 0 = omega arith in
    let y : length slots - 0 ≡ length slots = omega arith in
    ap (first f 0) z ∙ first-rank f slots 0 ∙ ap (first (by_rank f slots) 0) y

-- after a full slot
pub first-rank_after : {A : Type 0} (f : ℕ → Option A) (slots : List Cube) (a : ℕ) → full slots a ≡ true
    → first f (list_place slots a + 1) (length (terms_of slots) - (list_place slots a + 1)) ≡ first (by_rank f slots) (a + 1) (length slots - (a + 1))
first-rank_after f slots a h =
    ap (λ r. first f r (length (terms_of slots) - r)) (sym (rank-next_full slots a h)) ∙ first-rank f slots (a + 1)

-- what a search by ranks answers at a slot
pub by_rank-full : {A : Type 0} (f : ℕ → Option A) (slots : List Cube) (i : ℕ) → full slots i ≡ true → by_rank f slots i ≡ f (list_place slots i)
by_rank-full f slots i h = ap (λ t. cond t (f (list_place slots i)) None) h

pub by_rank-none : {A : Type 0} (f : ℕ → Option A) (slots : List Cube) (i : ℕ) → (full slots i ≡ true → f (list_place slots i) ≡ None) → by_rank f slots i ≡ None
by_rank-none f slots i h = cond_none (full slots i) (f (list_place slots i)) h

-- the first slot with an answer, and none
pub rank_found : {A : Type 0} (f : ℕ → Option A) (slots : List Cube) (a : ℕ) (x : A) → full slots a ≡ true → f (list_place slots a) ≡ Some x
    → ((i : ℕ) → i < a → full slots i ≡ true → f (list_place slots i) ≡ None) → first f 0 (length (terms_of slots)) ≡ Some x
rank_found f slots a x fa is before =
    first-rank_all f slots
    ∙ first_found (by_rank f slots) 0 (length slots) a x (omega arith) (let w = full_within slots a fa in omega arith) (by_rank-full f slots a fa ∙ is)
    (λ i l u. by_rank-none f slots i (before i u))

pub rank_none : {A : Type 0} (f : ℕ → Option A) (slots : List Cube) → ((i : ℕ) → full slots i ≡ true → f (list_place slots i) ≡ None)
    → first f 0 (length (terms_of slots)) ≡ None
rank_none f slots none = first-rank_all f slots ∙ none_first (by_rank f slots) 0 (length slots) (λ i l u. by_rank-none f slots i (none i))
