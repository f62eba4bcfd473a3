-- What stands in the slots after two cubes became one, one was emptied, or a cube was put into one.
use Rattle.std.proofs.Common.{◌≡◌, ◌≢◌, ℕ, ◌<◌, Bool, true, false, cond, List, length, set, refl, sym, ◌∙◌, ap, inl, inr, arith, eqb, get_or-set_same, get_or-set_other, length-set, ◌∷◌, [], zero, suc, ◌+◌, ◌≤◌}
use Rattle.std.specs.Prelude.{Option, None, Some, All, nat_lt, ◌⊎◌}
use Rattle.std.proofs.lemmas.Bool.{cases_eq, cond_both}
use Rattle.std.proofs.lemmas.Nat.{xor_lt}
use Rattle.std.proofs.lemmas.List.Elements.{All-set}
use Rattle.rv_pla.specs.Cube.{IsCube}
use Rattle.rv_pla.specs.declared.cube.Cube.{Cube}
use Rattle.rv_cube.specs.Distance.{differing}
use Rattle.rv_cube.specs.Reduction.{no_cube, at, merge_by, carrying}
use Rattle.rv_cube.specs.inside.Slots.{carries, full, is_alike, slot_of, or_empty, merge_in, merged_in, merged_in_any, settled_by, settled, list_place, IsKeyed}
use Rattle.rv_cube.proofs.inside.Differing.{IsDiffering, differing_is}
use Rattle.rv_cube.proofs.inside.Merges.{with_third_cube, both}
use Rattle.rv_cube.proofs.inside.Full.{full_within, no_cube_valid, at_valid, apart_from, full_set-same, full_set-other, full_cleared}
use Rattle.rv_cube.proofs.inside.Keys.{alike_differing, is_alike-self, slot_of-some, is_alike-comm, is_alike-trans, slot_of-none}
use Rattle.std.proofs.lemmas.List.Edits.{length-remove}
use Rattle.rv_cube.specs.Esop.{terms_of}
use Rattle.rv_cube.proofs.inside.Ranks.{terms_of-remove, rank_within}

-- ---- what two cubes become

carrying_valid : (n outputs : ℕ) (x : Cube) (t : Bool) → IsCube n outputs x → IsCube n outputs (or_empty (cond t None (Some x)))
carrying_valid n outputs x true v = no_cube_valid n outputs
carrying_valid n outputs x false v = v

both_valid : (n outputs : ℕ) (x y : Cube) → IsCube n outputs x → IsCube n outputs y → IsCube n outputs (or_empty (carrying (both x y)))
both_valid n outputs x y vx vy =
    carrying_valid n outputs (both x y) (eqb (both x y).outs 0) (record { asked = vx.asked; wanted = vx.wanted; carried = xor_lt outputs _ _ vx.carried vy.carried })

merge_in_by_valid : (n outputs : ℕ) (x y : Cube) (a : List ℕ) → IsDiffering x y n a → IsCube n outputs x → IsCube n outputs y → IsCube n outputs (or_empty (merge_by a x y))
merge_in_by_valid n outputs x y (p ∷ []) is vx vy = with_third_cube n outputs x y p is.0 vx
merge_in_by_valid n outputs x y o is vx vy = both_valid n outputs x y vx vy

pub merge_in_valid : (n outputs : ℕ) (x y : Cube) → IsCube n outputs x → IsCube n outputs y → IsCube n outputs (merge_in n x y)
merge_in_valid n outputs x y vx vy = merge_in_by_valid n outputs x y (differing n x y) (differing_is n x y) vx vy

pub merge_in_same : (n : ℕ) (x y : Cube) → is_alike x y ≡ true → merge_in n x y ≡ or_empty (carrying (both x y))
merge_in_same n x y h = ap (λ a. or_empty (merge_by a x y)) (alike_differing n x y h)

-- cubes with the same inputs become nothing, or a cube with these inputs
carrying_alike : (x z : Cube) (t : Bool) → is_alike x z ≡ true → carries (or_empty (cond t None (Some x))) ≡ true → is_alike (or_empty (cond t None (Some x))) z ≡ true
carrying_alike x z t h h2 = grind arith

pub merge_in_alike : (n : ℕ) (x y : Cube) → is_alike x y ≡ true → carries (merge_in n x y) ≡ true → is_alike (merge_in n x y) x ≡ true
merge_in_alike n x y e = grind (arith, is_alike, merge_in_same, carrying_alike, is_alike-self)

-- ---- the slots

pub merged_in_valid : (n outputs : ℕ) (slots : List Cube) (a b : ℕ) → All (IsCube n outputs) slots → All (IsCube n outputs) (merged_in n slots a b)
merged_in_valid n outputs slots a b all =
    All-set (IsCube n outputs) (set slots b no_cube) a (merge_in n (at slots a) (at slots b))
    (merge_in_valid n outputs (at slots a) (at slots b) (at_valid n outputs slots a all) (at_valid n outputs slots b all))
    (All-set (IsCube n outputs) slots b no_cube (no_cube_valid n outputs) all)

-- what holds of both orders holds of any
pub either_way : (P : List Cube → Type 0) (n : ℕ) (slots : List Cube) (i j : ℕ) → P (merged_in n slots i j) → P (merged_in n slots j i) → P (merged_in_any n slots i j)
either_way P n slots i j p q = cond_both (nat_lt i j) (merged_in n slots i j) (merged_in n slots j i) P (λ t. p) (λ t. q)

pub merged_in_length : (n : ℕ) (slots : List Cube) (a b : ℕ) → length (merged_in n slots a b) ≡ length slots
merged_in_length n slots a b = length-set (set slots b no_cube) a (merge_in n (at slots a) (at slots b)) ∙ length-set slots b no_cube

pub merged_in_first : (n : ℕ) (slots : List Cube) (a b : ℕ) → a < length slots → at (merged_in n slots a b) a ≡ merge_in n (at slots a) (at slots b)
merged_in_first n slots a b h = grind (arith, length-set, no_cube, get_or-set_same, merge_in)

pub merged_in_second : (n : ℕ) (slots : List Cube) (a b : ℕ) → b ≢ a → b < length slots → at (merged_in n slots a b) b ≡ no_cube
merged_in_second n slots a b ne h =
    get_or-set_other (set slots b no_cube) a b (merge_in n (at slots a) (at slots b)) no_cube ne ∙ get_or-set_same slots b no_cube no_cube h

pub merged_in_gone : (n : ℕ) (slots : List Cube) (a b k : ℕ) → b ≢ a → b < length slots → full (merged_in n slots a b) k ≡ true → k ≢ b
merged_in_gone n slots a b k ne h f = apart_from (merged_in n slots a b) b k (ap carries (merged_in_second n slots a b ne h)) f

pub merged_in_other : (n : ℕ) (slots : List Cube) (a b k : ℕ) → k ≢ a → k ≢ b → at (merged_in n slots a b) k ≡ at slots k
merged_in_other n slots a b k na nb =
    get_or-set_other (set slots b no_cube) a k (merge_in n (at slots a) (at slots b)) no_cube na ∙ get_or-set_other slots b k no_cube no_cube nb

-- a slot that is full after alike cubes became one was full, with the same inputs
pub record Stood (slots : List Cube) (i : ℕ) (cube : Cube) : Type 0 where
  pub was_full : full slots i ≡ true
  pub was_alike : is_alike cube (at slots i) ≡ true

pub merged_in_stood : (n : ℕ) (slots : List Cube) (a b k : ℕ) → b ≢ a → full slots a ≡ true → full slots b ≡ true → is_alike (at slots a) (at slots b) ≡ true
    → full (merged_in n slots a b) k ≡ true → Stood slots k (at (merged_in n slots a b) k)
merged_in_stood n slots a b k ba fa fb e f = grind (arith, full_within, merged_in_first, merge_in_alike, merged_in_gone, merged_in_other, is_alike-self)

-- ---- a cube is put into a slot

-- what holds of the slots with the cube, and of those where it and a slot with its inputs became one, holds of what
-- it leaves
pub settled_case : (P : List Cube → Type 0) (n : ℕ) (slots : List Cube) (i : ℕ) (cube : Cube) → (slot_of slots cube ≡ None → P (set slots i cube))
    → ((j : ℕ) → full slots j ≡ true → is_alike (at slots j) cube ≡ true → P (merged_in n (set slots i cube) i j) × P (merged_in n (set slots i cube) j i))
    → P (settled n slots i cube)
settled_case P n slots i cube none some = choose (slot_of slots cube) refl
  where
    choose : (o : Option ℕ) → slot_of slots cube ≡ o → P (settled_by o n slots i cube)
    choose None e = none e
    choose (Some j) e =
        let f = slot_of-some slots cube j e in
        let both = some j f.0 f.1 in
        either_way P n (set slots i cube) i j both.0 both.1

-- ---- how many are full

abbrev pub count : List Cube → ℕ
count slots = length (terms_of slots)

-- one cube more or less
head_count : (s t : Bool) (x c : Cube) (xs : List Cube) → length (cond s (c ∷ xs) xs) ≤ length (cond t (x ∷ xs) xs) + 1
head_count s t x c xs = grind arith

tail_count : (t : Bool) (x : Cube) (xs ys : List Cube) → length ys ≤ length xs + 1 → length (cond t (x ∷ ys) ys) ≤ length (cond t (x ∷ xs) xs) + 1
tail_count t x xs ys h = grind arith

count_set : (slots : List Cube) (i : ℕ) (cube : Cube) → count (set slots i cube) ≤ count slots + 1
count_set [] i cube = omega arith
count_set (x ∷ xs) zero cube = head_count (carries cube) (carries x) x cube (terms_of xs)
count_set (x ∷ xs) (suc i) cube = tail_count (carries x) x (terms_of xs) (terms_of (set xs i cube)) (count_set xs i cube)

pub count_clear : (slots : List Cube) (i : ℕ) → full slots i ≡ true → count (set slots i no_cube) + 1 ≡ count slots
count_clear slots i f =
    ap (λ l. length l + 1) (terms_of-remove slots i no_cube f refl) ∙ length-remove (terms_of slots) (list_place slots i) (rank_within slots i f)

count_merged_in : (n : ℕ) (slots : List Cube) (a b : ℕ) → full slots b ≡ true → count (merged_in n slots a b) ≤ count slots
count_merged_in n slots a b f = grind (arith, count_clear, count_set, no_cube, merge_in)

pub settled_count : (n : ℕ) (slots : List Cube) (i : ℕ) (cube : Cube) → carries cube ≡ true → i < length slots → full slots i ≡ false
    → count (settled n slots i cube) ≤ count slots + 1
settled_count n slots i cube some within empty =
    let t : List Cube = set slots i cube in
    let s = count_set slots i cube in
    let fi = full_set-same slots i cube within ∙ some in
    settled_case (λ l. count l ≤ count slots + 1) n slots i cube (λ e. s)
    (λ j f a.
    let fj = full_set-other slots i j cube (apart_from slots i j empty f) ∙ f in
    let x = count_merged_in n (set slots i cube) i j fj in
    let y = count_merged_in n (set slots i cube) j i fi in
    (omega arith, omega arith))

pub settled_length : (n : ℕ) (slots : List Cube) (i : ℕ) (cube : Cube) → length (settled n slots i cube) ≡ length slots
settled_length n slots i cube = grind (arith, length-set, settled_case, merged_in_length)

pub settled_empty : (n : ℕ) (slots : List Cube) (i k : ℕ) (cube : Cube) → k ≢ i → full slots k ≡ false → full (settled n slots i cube) k ≡ false
settled_empty n slots i k cube ni empty =
    let t : List Cube = set slots i cube in
    let e = full_set-other slots i k cube ni ∙ empty in
    settled_case (λ l. full l k ≡ false) n slots i cube (λ none. e)
    (λ j f a.
    let nj : k ≢ j = λ s. apart_from slots k j empty f (sym s) in
    (ap carries (merged_in_other n t i j k ni nj) ∙ e, ap carries (merged_in_other n t j i k nj ni) ∙ e))

-- ---- no two with the same inputs

-- a slot that is full after slot i was set is i, or was full with the same cube
set_stood : (slots : List Cube) (i k : ℕ) (cube : Cube) → full (set slots i cube) k ≡ true
    → (k ≡ i) ⊎ ((k ≢ i) × (full slots k ≡ true) × (at (set slots i cube) k ≡ at slots k))
set_stood slots i k cube f = grind (arith, cases_eq, full_set-other, get_or-set_other, no_cube)

pub keyed_clear : (slots : List Cube) (i : ℕ) → IsKeyed slots → IsKeyed (set slots i no_cube)
keyed_clear slots i h p q fp fq e = grind (arith, apart_from, full_cleared, set_stood)

-- but for i and j no two full slots have the same inputs
abbrev KeyedBut : List Cube → ℕ → ℕ → Type 0
KeyedBut slots i j =
    (p q : ℕ) → full slots p ≡ true → full slots q ≡ true → is_alike (at slots p) (at slots q) ≡ true
    → (p ≡ q) ⊎ ((p ≡ i) × (q ≡ j)) ⊎ ((p ≡ j) × (q ≡ i))

-- slots with the same inputs are one, or slot i and one with the inputs of the cube
keyed_set : (slots : List Cube) (i : ℕ) (cube : Cube) (Q : ℕ → Type 0) → i < length slots → IsKeyed slots
    → ((k : ℕ) → full slots k ≡ true → is_alike (at slots k) cube ≡ true → Q k)
    → (p q : ℕ) → full (set slots i cube) p ≡ true → full (set slots i cube) q ≡ true → is_alike (at (set slots i cube) p) (at (set slots i cube) q) ≡ true
    → (p ≡ q) ⊎ ((p ≡ i) × Q q) ⊎ (Q p × (q ≡ i))
keyed_set slots i cube Q within h like p q fp fq e = grind (arith, get_or-set_same, set_stood, is_alike-comm)

keyed_put : (slots : List Cube) (i j : ℕ) (cube : Cube) → i < length slots → IsKeyed slots → full slots j ≡ true → is_alike (at slots j) cube ≡ true
    → KeyedBut (set slots i cube) i j
keyed_put slots i j cube within h fj aj =
    keyed_set slots i cube (λ k. k ≡ j) within h (λ k f a. h k j f fj (is_alike-trans (at slots k) cube (at slots j) a (is_alike-comm (at slots j) cube aj)))

keyed_merged_in : (n : ℕ) (slots : List Cube) (a b : ℕ) → b ≢ a → full slots a ≡ true → full slots b ≡ true → is_alike (at slots a) (at slots b) ≡ true
    → KeyedBut slots a b → IsKeyed (merged_in n slots a b)
keyed_merged_in n slots a b ne fa fb ab h p q fp fq e =
    let sp = merged_in_stood n slots a b p ne fa fb ab fp in
    let sq = merged_in_stood n slots a b q ne fa fb ab fq in
    let x : Cube = at (merged_in n slots a b) p in
    let y : Cube = at (merged_in n slots a b) q in
    let was : is_alike (at slots p) (at slots q) ≡ true =
    is_alike-trans (at slots p) x (at slots q) (is_alike-comm x (at slots p) sp.was_alike) (is_alike-trans x y (at slots q) e sq.was_alike) in
    let lb = full_within slots b fb in
    elim (h p q sp.was_full sq.was_full was) [
      | inl s ↦ s
      | inr o ↦ (elim o [ inl s ↦ absurd (merged_in_gone n slots a b q ne lb fq s.1) | inr s ↦ absurd (merged_in_gone n slots a b p ne lb fp s.0) ])
    ]

but-swap : (slots : List Cube) (i j : ℕ) → KeyedBut slots i j → KeyedBut slots j i
but-swap slots i j h p q fp fq e =
    elim (h p q fp fq e) [ inl s ↦ inl s | inr o ↦ (elim o [ inl s ↦ inr (inr s) | inr s ↦ inr (inl s) ]) ]

-- no full slot has the inputs of the cube
keyed_alone : (slots : List Cube) (i : ℕ) (cube : Cube) → i < length slots → IsKeyed slots
    → ((k : ℕ) → full slots k ≡ true → is_alike (at slots k) cube ≡ true → ⊥) → IsKeyed (set slots i cube)
keyed_alone slots i cube within h alone p q fp fq e =
    elim (keyed_set slots i cube (λ k. ⊥) within h alone p q fp fq e) [
      | inl s ↦ s
      | inr o ↦ (elim o [ inl s ↦ absurd s.1 | inr s ↦ absurd s.0 ])
    ]

pub settled_keyed : (n : ℕ) (slots : List Cube) (i : ℕ) (cube : Cube) → IsKeyed slots → carries cube ≡ true → i < length slots → full slots i ≡ false
    → IsKeyed (settled n slots i cube)
settled_keyed n slots i cube h some within empty =
    let t : List Cube = set slots i cube in
    let here : at (set slots i cube) i ≡ cube = get_or-set_same slots i cube no_cube within in
    let fi = full_set-same slots i cube within ∙ some in
    settled_case IsKeyed n slots i cube (λ e. keyed_alone slots i cube within h (slot_of-none slots cube e))
    (λ j f like.
    let ne : j ≢ i = apart_from slots i j empty f in
    let there : at (set slots i cube) j ≡ at slots j = get_or-set_other slots i j cube no_cube ne in
    let fj = full_set-other slots i j cube ne ∙ f in
    let a : is_alike (at t i) (at t j) ≡ true = ap (λ c. is_alike c (at t j)) here ∙ ap (is_alike cube) there ∙ is_alike-comm (at slots j) cube like in
    let but = keyed_put slots i j cube within h f like in (
      keyed_merged_in n t i j ne fi fj a but,
      keyed_merged_in n t j i (λ s. ne (sym s)) fj fi (is_alike-comm (at t i) (at t j) a) (but-swap t i j but),
    ))

-- ---- each has a cube

pub settled_valid : (n outputs : ℕ) (slots : List Cube) (i : ℕ) (cube : Cube) → All (IsCube n outputs) slots → IsCube n outputs cube
    → All (IsCube n outputs) (settled n slots i cube)
settled_valid n outputs slots i cube all v =
    let t : List Cube = set slots i cube in
    let own = All-set (IsCube n outputs) slots i cube v all in
    settled_case (All (IsCube n outputs)) n slots i cube (λ e. own) (λ j f a. (merged_in_valid n outputs t i j own, merged_in_valid n outputs t j i own))
