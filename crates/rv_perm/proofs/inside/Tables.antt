-- The table of a list of numbers: it is there exactly if the list is a permutation.
use Rattle.std.proofs.Common.{◌≡◌, ◌≢◌, ℕ, zero, suc, ◌+◌, ◌^◌, ◌<◌, ◌≤◌, List, length, get_or, set, Option, Some, None, Result, Ok, Err, IfErr, refl, sym, ◌∙◌, ap, subst, inl, inr, arith, length-set, get_or-set_same, get_or-set_other, below_more}
use Rattle.std.specs.Prelude.{◌⊎◌}
use Rattle.std.specs.Option.{MatchOption, option_or}
use Rattle.std.proofs.lemmas.Bool.{cases_eq, cases_lt, cond-true, cond-false, eqb-true, eqb-false}
use Rattle.std.proofs.lemmas.Bool.Decides.{nat_tests}
use Rattle.std.proofs.lemmas.Nat.{pow_below}
use Rattle.std.proofs.lemmas.Result.{IfErr-at_err}
use Rattle.rv_perm.specs.declared.fault.PermFault.{PermFault}
use Rattle.rv_perm.specs.declared.fault.PermFault.TheVariants.{Text, Length, OutOfRange, Repeated, Mem}
use Rattle.rv_text.specs.declared.fault.TextFault.{TextFault}
use Rattle.rv_perm.specs.declared.perm.TheConstants.{MOST_PERM_LINES}
use Rattle.rv_perm.specs.Perm.{IsPerm, IsEachOnce, Table, lines_up_to, lines_for, preimage_of, place_fault, fault_at, fault_below, images_checked, table_on, table_of}
use Rattle.rv_perm.specs.inside.Places.{AreInverse}
use Rattle.rv_reader.specs.FirstFault.{first_below, unless_fault}
use Rattle.rv_reader.proofs.FirstBelow.{first_below-none}
use Rattle.rv_perm.proofs.inside.Inverse.{preimage_of-first, preimage_of-is, stands_once}
use Rattle.rv_gate.proofs.Options.{option_cases}

abbrev tabled : List ℕ → ℕ → Table
tabled xs n = record { lines = n; images = xs }

-- ---- the lines

-- the search for a number of lines from 1 to m
abbrev pub IsLines : ℕ → ℕ → Option ℕ → Type 0
IsLines m count r = MatchOption r ((n : ℕ) → 1 ≤ n → n ≤ m → count ≢ 2 ^ n) (λ n. (1 ≤ n) × (n ≤ m) × (count ≡ 2 ^ n))

lines_more : (m count : ℕ) (r : Option ℕ) → 2 ^ suc m ≢ count → IsLines m count r → IsLines (suc m) count r
lines_more m count None ne h = grind (arith)
lines_more m count (Some n) ne h = (h.0, omega (arith, h.1), h.2)

lines_up_to-is : (m count : ℕ) → IsLines m count (lines_up_to m count)
unfolding lines_up_to
lines_up_to-is zero count = λ n one most e. omega arith
lines_up_to-is (suc m) count = let i0 = lines_up_to-is m count in grind (arith, i0, cond-true, eqb-true, cond-false, lines_more, eqb-false)

pow_same : (a b : ℕ) → 2 ^ a ≡ 2 ^ b → a ≡ b
pow_same a b e = grind (arith, cases_lt, pow_below, cases_eq)

lines_same : (m count : ℕ) (r s : Option ℕ) → IsLines m count r → IsLines m count s → r ≡ s
lines_same m count r s h h1 = grind (arith, pow_same)

-- what a search through all numbers of lines answers
pub found_lines : (count n : ℕ) → 1 ≤ n → n ≤ MOST_PERM_LINES → 2 ^ n ≡ count → Some n ≡ lines_for count
found_lines count n one most e = lines_same MOST_PERM_LINES count (Some n) (lines_for count) (one, most, sym e) (lines_up_to-is MOST_PERM_LINES count)

pub no_lines : (count : ℕ) → ((n : ℕ) → 1 ≤ n → n ≤ MOST_PERM_LINES → count ≢ 2 ^ n) → None ≡ lines_for count
no_lines count h = lines_same MOST_PERM_LINES count None (lines_for count) h (lines_up_to-is MOST_PERM_LINES count)

pub lines_for-some : (count n : ℕ) → lines_for count ≡ Some n → (1 ≤ n) × (n ≤ MOST_PERM_LINES) × (count ≡ 2 ^ n)
lines_for-some count n e = let P : Option ℕ → Type 0 = IsLines MOST_PERM_LINES count in subst P e (lines_up_to-is MOST_PERM_LINES count)

-- ---- the first fault

-- a fault below n is the first one below any greater number
pub fault_more : (xs : List ℕ) (n m : ℕ) (fault : PermFault) → n ≤ m → fault_below xs n ≡ Some fault → fault_below xs m ≡ Some fault
unfolding first_below
fault_more xs n zero fault le e = let z : n ≡ 0 = omega arith in ap (fault_below xs) (sym z) ∙ e
fault_more xs n (suc m) fault le e =
    elim (cases_eq n (suc m)) [
      | inl same ↦ ap (fault_below xs) (sym same) ∙ e
      | inr other ↦ ap (λ o. option_or o (fault_at xs m)) (fault_more xs n m fault (omega arith) e)
    ]

-- what the step at a place makes of the first fault
pub fault_step : (xs : List ℕ) (n : ℕ) → fault_below xs n ≡ None → fault_below xs (suc n) ≡ fault_at xs n
unfolding first_below
fault_step xs n e = ap (λ o. option_or o (fault_at xs n)) e

pub place_in_range : (count number first place : ℕ) → number < count → place ≤ first → place_fault count number first place ≡ None
unfolding place_fault
place_in_range count number first place a b = grind (arith, nat_tests)

pub place_repeated : (count number first place : ℕ) → number < count → first < place → place_fault count number first place ≡ Some (Repeated first place)
unfolding place_fault
place_repeated count number first place a b = grind (arith, nat_tests)

pub place_out : (count number first place : ℕ) → count ≤ number → place_fault count number first place ≡ Some (OutOfRange place)
unfolding place_fault
place_out count number first place a = grind (arith, nat_tests)

-- ---- the loop that looks at each number

-- the first i numbers have no fault, and the places are theirs
pub record Placed (numbers places : List ℕ) (i : ℕ) : Type 0 where
  pub len : length places ≡ length numbers
  pub none : fault_below numbers i ≡ None
  pub below : (x : ℕ) → x < i → get_or numbers x 0 < length numbers
  pub back : (x : ℕ) → x < i → get_or places (get_or numbers x 0) 0 ≡ x
  pub stands : (v : ℕ) → v < length numbers → get_or places v 0 < length numbers → (get_or places v 0 < i) × (get_or numbers (get_or places v 0) 0 ≡ v)

pub placed_none : (numbers places : List ℕ) → length places ≡ length numbers → ((v : ℕ) → v < length numbers → get_or places v 0 ≡ length numbers) → Placed numbers places 0
unfolding first_below
placed_none numbers places len all = record {
  len = len;
  none = refl;
  below = λ x h. absurd (omega arith);
  back = λ x h. absurd (omega arith);
  stands = λ v h on. absurd (omega (arith, all v h));
}

-- no number before one that is new
new_number : (numbers places : List ℕ) (i y : ℕ) → i ≤ length numbers → length numbers ≤ get_or places y 0 → Placed numbers places i
    → (j : ℕ) → j < i → get_or numbers j 0 ≢ y
new_number numbers places i y le new s j l e = grind (arith)

pub placed_more : (numbers places : List ℕ) (i y : ℕ) → y ≡ get_or numbers i 0 → i < length numbers → y < length numbers → length numbers ≤ get_or places y 0
    → Placed numbers places i → Placed numbers (set places y i) (i + 1)
placed_more numbers places i y read h lt new s =
    let none = new_number numbers places i y (omega arith) new s in
    let y_in : y < length places = omega (arith, s.len) in
    let first : preimage_of numbers y ≡ i = preimage_of-first numbers i y none h (sym read) in
    let ok : fault_at numbers i ≡ None = rw (← read) (place_in_range (length numbers) y (preimage_of numbers y) i lt (omega arith)) in
    let at : i + 1 ≡ suc i = omega arith in
    record {
      len = length-set places y i ∙ s.len;
      none = ap (fault_below numbers) at ∙ fault_step numbers i s.none ∙ ok;
      below = below_more _ _ s.below (rw (← read) lt);
      back = below_more _ _
          (λ x l. get_or-set_other places y (get_or numbers x 0) i 0 (none x l) ∙ s.back x l)
          (rw (← read) (get_or-set_same places y i 0 y_in));
      stands = λ v v_in on.
          elim (cases_eq v y) [
            | inl same ↦
                let e : get_or (set places y i) v 0 ≡ i = ap (λ k. get_or (set places y i) k 0) same ∙ get_or-set_same places y i 0 y_in in
                (omega arith, ap (λ k. get_or numbers k 0) e ∙ sym read ∙ sym same)
            | inr other ↦
                let e = get_or-set_other places y v i 0 other in
                let old = s.stands v v_in (omega arith) in
                (omega (arith, old.0), ap (λ k. get_or numbers k 0) e ∙ old.1)
          ];
    }

pub placed_out : (numbers places : List ℕ) (i y : ℕ) → y ≡ get_or numbers i 0 → i < length numbers → length numbers ≤ y
    → Placed numbers places i → fault_below numbers (length numbers) ≡ Some (OutOfRange i)
placed_out numbers places i y read h out s =
    fault_more numbers (suc i) (length numbers) (OutOfRange i) (omega arith)
    (fault_step numbers i s.none ∙ rw (← read) (place_out (length numbers) y (preimage_of numbers y) i out))

pub placed_twice : (numbers places : List ℕ) (i y first : ℕ) → y ≡ get_or numbers i 0 → i < length numbers → y < length numbers
    → first ≡ get_or places y 0 → first < length numbers → Placed numbers places i → fault_below numbers (length numbers) ≡ Some (Repeated first i)
placed_twice numbers places i y first read h lt found old s =
    let there = s.stands y lt (omega arith) in
    let stands : get_or numbers first 0 ≡ y = ap (λ k. get_or numbers k 0) found ∙ there.1 in
    let before : first < i = omega (arith, there.0) in
    let none : (j : ℕ) → j < first → get_or numbers j 0 ≢ y = λ j l e.
    (let at : get_or places y 0 ≡ j = ap (λ v. get_or places v 0) (sym e) ∙ s.back j (omega arith) in omega arith) in
    let is : preimage_of numbers y ≡ first = preimage_of-first numbers first y none (omega arith) stands in
    fault_more numbers (suc i) (length numbers) (Repeated first i) (omega arith)
    (fault_step numbers i s.none ∙ rw (← read, is) (place_repeated (length numbers) y first i lt before))

pub placed_once : (numbers places : List ℕ) → Placed numbers places (length numbers) → IsEachOnce numbers
placed_once numbers places s = (
  s.below,
  λ x y l h e.
      let same : x ≡ y = sym (s.back x (omega arith)) ∙ ap (λ v. get_or places v 0) e ∙ s.back y h in
      omega arith,
)

pub placed_all : (numbers places : List ℕ) → Placed numbers places (length numbers) → AreInverse numbers places
placed_all numbers places s =
    let at : (y : ℕ) → y < length numbers → (get_or places y 0 < length numbers) × (get_or numbers (get_or places y 0) 0 ≡ y) = λ y h.
    let o = stands_once numbers y (placed_once numbers places s) h in
    let e : get_or places y 0 ≡ o.0 = ap (λ v. get_or places v 0) (sym o.2) ∙ s.back o.0 o.1 in
    (omega (arith, o.1), ap (λ x. get_or numbers x 0) e ∙ o.2) in
    record {
      len = s.len;
      within = s.below;
      below = λ y h. (at y h).0;
      back = s.back;
      there = λ y h. (at y h).1;
    }

-- ---- the table

pub checked_ok : (n : ℕ) (xs : List ℕ) → fault_below xs (length xs) ≡ None → images_checked n xs ≡ Ok (tabled xs n)
unfolding images_checked
checked_ok n xs e = ap (unless_fault (tabled xs n)) e

pub checked_err : (n : ℕ) (xs : List ℕ) (fault : PermFault) → fault_below xs (length xs) ≡ Some fault → images_checked n xs ≡ Err fault
unfolding images_checked
checked_err n xs fault e = ap (unless_fault (tabled xs n)) e

pub table_none : (xs : List ℕ) → lines_for (length xs) ≡ None → table_of xs ≡ Err (Length (length xs))
unfolding table_on
table_none xs e = ap (λ o. table_on o xs) e

pub table_some : (n : ℕ) (xs : List ℕ) → lines_for (length xs) ≡ Some n → table_of xs ≡ images_checked n xs
unfolding table_on
table_some n xs e = ap (λ o. table_on o xs) e

-- ---- no fault is one of a text

both_texts : (first later : Option PermFault) (t : TextFault) → first ≢ Some (Text t) → later ≢ Some (Text t) → option_or first later ≢ Some (Text t)
both_texts None later t a b = b
both_texts (Some fault) later t a b = a

place_text : (count number first place : ℕ) (t : TextFault) → place_fault count number first place ≢ Some (Text t)
place_text count number first place t = grind (arith, place_repeated, place_in_range, place_out)

pub no_text : (xs : List ℕ) (n : ℕ) (t : TextFault) → fault_below xs n ≢ Some (Text t)
unfolding first_below
no_text xs zero t = λ h. (let z = h in cc)
no_text xs (suc n) t = let i0 = no_text xs n t in grind (arith, i0, both_texts, place_text)

-- what a refusal of numbers of so many lines was for
abbrev pub IsFaultOf : ℕ → List ℕ → PermFault → Type 0
IsFaultOf n xs fault = (fault ≡ Mem) ⊎ (images_checked n xs ≡ Err fault)

checked_text : (n : ℕ) (xs : List ℕ) (t : TextFault) → images_checked n xs ≢ Err (Text t)
unfolding images_checked
checked_text n xs t =
    elim (option_cases (fault_below xs (length xs))) [
      | inl none ↦ (let e = checked_ok n xs none in λ h. (let z = sym e ∙ h in cc))
      | inr some ↦
          let e = checked_err n xs some.0 some.1 in
          λ h. no_text xs (length xs) t (some.1 ∙ ap some_fault (err_same some.0 (Text t) (sym e ∙ h)))
    ]
  where
    some_fault : PermFault → Option PermFault
    some_fault f = Some f

    err_same : (a b : PermFault) → ◌≡◌ {A = Result Table PermFault} (Err a) (Err b) → a ≡ b
    err_same a b e = cc

pub refused_for : {T : Type 0} (n : ℕ) (xs : List ℕ) (r : Result T PermFault) (fault : PermFault) → lines_for (length xs) ≡ Some n → IfErr r (IsFaultOf n xs) → fault ≢ Mem
    → r ≡ Err fault → table_of xs ≡ Err fault
refused_for n xs r fault lines told other e = grind (arith, IfErr-at_err, table_some)

pub refused_for_text : {T : Type 0} (n : ℕ) (xs : List ℕ) (r : Result T PermFault) (t : TextFault) → IfErr r (IsFaultOf n xs) → r ≢ Err (Text t)
refused_for_text n xs r t told e = grind (arith, checked_text)

-- ---- the table and its fault, in words of permutations

-- a place without a fault
clean_at : (xs : List ℕ) (n m : ℕ) → n < m → fault_below xs m ≡ None → fault_at xs n ≡ None
clean_at xs n m lt e =
    elim (option_cases (fault_below xs n)) [
      | inr fault ↦ absurd (let z = sym (fault_more xs n m fault.0 (omega arith) fault.1) ∙ e in cc)
      | inl none ↦ elim (option_cases (fault_at xs n)) [
        | inl clean ↦ clean
        | inr fault ↦ absurd (let z = sym (fault_more xs (suc n) m fault.0 lt (fault_step xs n none ∙ fault.1)) ∙ e in cc)
      ]
    ]

-- ---- a permutation has no fault

no_fault_below : (images : List ℕ) → IsEachOnce images → (n : ℕ) → n ≤ length images → fault_below images n ≡ None
no_fault_below images once n le = grind (arith, first_below-none, fault_at, preimage_of, preimage_of-is, place_in_range)

pub table_back : (table : Table) → IsPerm table.lines table.images → images_checked table.lines table.images ≡ Ok table
table_back table is = checked_ok table.lines table.images (no_fault_below table.images is.3 (length table.images) (omega arith))
