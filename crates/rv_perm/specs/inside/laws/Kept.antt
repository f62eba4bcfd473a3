-- The numbers that are kept, and the table of all.
use Rattle.std.proofs.Common.{◌≡◌, ℕ, zero, suc, ◌+◌, ◌^◌, ◌<◌, ◌≤◌, min, not, cond, eqb, ltb, List, [], ◌∷◌, ◌++◌, length, map, take, get_or, Option, Some, None, Ok, refl, sym, ◌∙◌, ap, inl, inr, arith, ext_get_or}
use Rattle.std.specs.Option.{option_or}
use Rattle.std.proofs.lemmas.Bool.{cases_eq, cases_lt, cases_Bool, cond-true, cond-false, lt-ltb, le-ltb, eqb-true, ne_eqb}
use Rattle.std.proofs.lemmas.List.{length-map, length_push, map-append, take_all, take-append-le, get_or-map}
use Rattle.std.proofs.Math.Nat.{pow-suc}
use Rattle.rv_perm.specs.declared.fault.PermFault.{PermFault}
use Rattle.rv_perm.specs.declared.fault.PermFault.TheVariants as faults
use Rattle.rv_perm.specs.declared.perm.TheConstants.{MOST_NUMBERS, MOST_PERM_LINES}
use Rattle.rv_perm.specs.Perm.{Table, preimage_of, place_fault, fault_at, fault_below, images_checked, lines_up_to, lines_for}
use Rattle.rv_reader.specs.FirstFault.{first_below, unless_fault}

-- ---- the numbers that are kept

-- as many as can be images, where all values from there on count as one
pub kept : ℕ → List ℕ → List ℕ
kept most numbers = take most (map (λ n. min n most) numbers)

pub kept-none : (most : ℕ) → kept most [] ≡ []
unfolding kept
kept-none zero = refl
kept-none (suc most) = refl

pub kept-more : (most : ℕ) (numbers : List ℕ) (n : ℕ)
    → cond (ltb (length numbers) most) (kept most numbers ++ min n most ∷ []) (kept most numbers)
    ≡ kept most (numbers ++ n ∷ [])
unfolding kept
kept-more most numbers n =
    let small : ℕ → ℕ = λ n. min n most in
    let whole : map small (numbers ++ n ∷ []) ≡ map small numbers ++ min n most ∷ [] =
    map-append small numbers (n ∷ []) in
    let count : length (map small numbers) ≡ length numbers = length-map numbers small in
    elim (cases_lt (length numbers) most) [
      | inl room ↦
          cond-true (ltb (length numbers) most) _ _ (lt-ltb _ _ room)
          ∙ ap (λ ns. ns ++ min n most ∷ []) (take_all most (map small numbers) (omega arith))
          ∙ sym (ap (take most) whole ∙ take_all most (map small numbers ++ min n most ∷ [])
          (omega (arith, length_push (map small numbers) (min n most))))
      | inr full ↦
          cond-false (ltb (length numbers) most) _ _ (le-ltb _ _ full)
          ∙ sym (ap (take most) whole ∙ take-append-le most (map small numbers) (min n most ∷ []) (omega arith))
    ]

-- ---- the numbers that are kept have the table of all

eqb_min : (n x most : ℕ) → x < most → eqb (min n most) x ≡ eqb n x
eqb_min n x most h =
    elim (cases_lt n most) [
      | inl below ↦ let e : min n most ≡ n = omega arith in ap (λ k. eqb k x) e
      | inr past ↦ ne_eqb (min n most) x (λ e. omega arith) ∙ sym (ne_eqb n x (λ e. omega arith))
    ]

preimage_of-kept : (most x : ℕ) (numbers : List ℕ) → x < most
    → preimage_of (map (λ n. min n most) numbers) x ≡ preimage_of numbers x
unfolding preimage_of
preimage_of-kept most x [] h = refl
preimage_of-kept most x (n ∷ numbers) h =
    ap (λ b. cond (not b) (1 + preimage_of (map (λ n. min n most) numbers) x) 0) (eqb_min n x most h)
    ∙ ap (λ k. cond (not (eqb n x)) (1 + k) 0) (preimage_of-kept most x numbers h)

place_out : (count number first place : ℕ) → count ≤ number
    → place_fault count number first place ≡ Some (faults.OutOfRange place)
unfolding place_fault
place_out count number first place past = cond-false (ltb number count) _ _ (le-ltb _ _ past)

fault_at-kept : (most p : ℕ) (numbers : List ℕ) → length numbers ≤ most → p < length numbers
    → fault_at (map (λ n. min n most) numbers) p ≡ fault_at numbers p
fault_at-kept most p numbers few lt =
    let small : ℕ → ℕ = λ n. min n most in
    let n : ℕ = get_or numbers p 0 in
    let count : length (map small numbers) ≡ length numbers = length-map numbers small in
    let at : get_or (map small numbers) p 0 ≡ min n most = get_or-map small numbers p 0 0 lt in
    elim (cases_lt n (length numbers)) [
      | inl in_range ↦
          let same : min n most ≡ n = omega arith in
          ap (λ k. place_fault k (get_or (map small numbers) p 0)
          (preimage_of (map small numbers) (get_or (map small numbers) p 0)) p) count
          ∙ ap (λ k. place_fault (length numbers) k (preimage_of (map small numbers) k) p) (at ∙ same)
          ∙ ap (λ k. place_fault (length numbers) n k p) (preimage_of-kept most n numbers (omega arith))
      | inr past ↦
          place_out (length (map small numbers)) (get_or (map small numbers) p 0) _ p (omega arith)
          ∙ sym (place_out (length numbers) n _ p past)
    ]

fault_below-kept : (most k : ℕ) (numbers : List ℕ) → length numbers ≤ most → k ≤ length numbers
    → fault_below (map (λ n. min n most) numbers) k ≡ fault_below numbers k
unfolding first_below
fault_below-kept most zero numbers few h = refl
fault_below-kept most (suc k) numbers few h =
    ap (λ f. option_or f (fault_at (map (λ n. min n most) numbers) k))
    (fault_below-kept most k numbers few (omega arith))
    ∙ ap (option_or (fault_below numbers k)) (fault_at-kept most k numbers few (omega arith))

place_in_range : (count number first place : ℕ) → place_fault count number first place ≡ None → number < count
unfolding place_fault
place_in_range count number first place clean =
    elim (cases_lt number count) [
      | inl lt ↦ lt
      | inr past ↦ absurd (let out = sym (cond-false (ltb number count) _ _ (le-ltb _ _ past)) ∙ clean in cc)
    ]

neither : (first later : Option PermFault) → option_or first later ≡ None → (first ≡ None) × (later ≡ None)
neither None later e = (refl, e)
neither (Some fault) later e = absurd cc

-- where no place has a fault, each number is in range
in_range : (numbers : List ℕ) (n p : ℕ) → fault_below numbers n ≡ None → p < n → get_or numbers p 0 < length numbers
unfolding first_below
in_range numbers zero p clean lt = absurd (omega arith)
in_range numbers (suc n) p clean lt =
    let parts = neither (fault_below numbers n) (fault_at numbers n) clean in
    elim (cases_eq p n) [
      | inl here ↦ rw here
          (place_in_range (length numbers) (get_or numbers n 0) (preimage_of numbers (get_or numbers n 0)) n parts.1)
      | inr before ↦ in_range numbers n p parts.0 (omega arith)
    ]

-- numbers in range are kept as they are
kept-same : (most : ℕ) (numbers : List ℕ) → length numbers ≤ most
    → ((p : ℕ) → p < length numbers → get_or numbers p 0 < length numbers) → map (λ n. min n most) numbers ≡ numbers
kept-same most numbers few in_range =
    let count : length (map (λ n. min n most) numbers) ≡ length numbers = length-map numbers (λ n. min n most) in
    ext_get_or 0 _ _ count
    (λ p lt. let within : p < length numbers = omega arith in let small = in_range p within in
    get_or-map (λ n. min n most) numbers p 0 0 within ∙ omega arith)

pub images_checked-kept : (n most : ℕ) (numbers : List ℕ) → length numbers ≤ most
    → images_checked n (kept most numbers) ≡ images_checked n numbers
unfolding images_checked kept
images_checked-kept n most numbers few =
    let small : List ℕ = map (λ n. min n most) numbers in
    let count : length small ≡ length numbers = length-map numbers (λ n. min n most) in
    ap (λ ns. unless_fault {A = Table} (record { lines = n; images = ns }) (fault_below ns (length ns)))
    (take_all most small (omega arith))
    ∙ ap (λ k. unless_fault {A = Table} (record { lines = n; images = small }) (fault_below small k)) count
    ∙ ap (unless_fault {A = Table} (record { lines = n; images = small }))
    (fault_below-kept most (length numbers) numbers few (omega arith))
    ∙ (by_fault (fault_below numbers (length numbers)) refl)
  where
    by_fault : (f : Option PermFault) → fault_below numbers (length numbers) ≡ f
        → unless_fault {A = Table} (record { lines = n; images = map (λ n. min n most) numbers }) f
        ≡ unless_fault {A = Table} (record { lines = n; images = numbers }) f
    by_fault None clean =
        ap (λ ns. Ok (record { lines = n; images = ns }))
        (kept-same most numbers few (λ p lt. in_range numbers (length numbers) p clean lt))
    by_fault (Some fault) _ = refl

-- ---- how many numbers a permutation has

lines_up_to-few : (most count n : ℕ) → lines_up_to most count ≡ Some n → count ≤ 2 ^ most
unfolding lines_up_to
lines_up_to-few zero count n is = absurd cc
lines_up_to-few (suc most) count n is =
    elim (cases_Bool (eqb (2 ^ suc most) count)) [
      | inl all ↦ let e = eqb-true _ _ all in omega arith
      | inr other ↦ let few =
          lines_up_to-few most count n (sym (cond-false (eqb (2 ^ suc most) count) _ _ other) ∙ is) in
          omega (arith, pow-suc 2 most)
    ]

pub lines_for-few : (count n : ℕ) → lines_for count ≡ Some n → count ≤ MOST_NUMBERS
lines_for-few count n is = lines_up_to-few MOST_PERM_LINES count n is
