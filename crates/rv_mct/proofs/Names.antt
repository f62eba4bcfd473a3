-- The names of added lines: enough of them are free.
use Rattle.std.proofs.Common.{◌≡◌, ◌≢◌, ℕ, zero, suc, ◌+◌, ◌<◌, ◌≤◌, Bool, true, false, cond, not, List, [], ◌∷◌, ◌++◌, length, take, drop, slice_get, Option, Some, None, is_some, subst, inl, inr, refl, sym, ap, ◌∙◌, arith, add-one, append_assoc, nat_lt, ◌&&◌}
use Rattle.std.specs.List.{AllPairs, Contains, filter}
use Rattle.std.proofs.lemmas.Bool.{and_parts, cases_Bool, false≢true, ltb-false, ltb-true}
use Rattle.std.proofs.lemmas.Cmp.{nat_list_eq_equiv}
use Rattle.std.proofs.lemmas.List.{append-nil, length-append, length-take, take-append-drop, take-append-le, take_all}
use Rattle.std.proofs.lemmas.List.Elements.{All-contains, filter-append, filter_passes, Contains-append_cases, Contains-append_left, Contains-append_right}
use Rattle.std.proofs.lemmas.List.Filters.{length-filter_both}
use Rattle.std.proofs.lemmas.List.Kept.{AllPairs-filter}
use Rattle.std.proofs.lemmas.List.FromFn.{get_or-map-range_with_len}
use Rattle.std.proofs.lemmas.Option.{get_or_from_slice_get}
use Rattle.std.proofs.lemmas.Map.Made.{IsDistinct-from_AllPairs, is_member-Decides, length-le_from_is_member}
use Rattle.std.proofs.lemmas.Slice.Eq.{bytes_eq-Decides}
use Rattle.rv_gate.specs.Names.{AreNames, IsName, IsPrefixByte, numbered, numbered_name}
use Rattle.rv_gate.specs.declared.word.TheConstants.{MOST_LINES}
use Rattle.rv_gate.proofs.NameLemmas.{AreNames-push, IsName-numbered_name, length-numbered, numbered-free, numbered-more}
use Rattle.rv_mct.specs.Widened.{is_taken, spare_names, added_names}

pub taken_not : (b : Bool) → not b ≡ true → b ≡ false
taken_not b h = grind arith

-- numbered names are names, each once
pub AreNames-numbered : (prefix n : ℕ) → IsPrefixByte prefix → n ≤ MOST_LINES → AreNames (numbered prefix n)
AreNames-numbered prefix zero letter few = record { few = omega arith; each = λ k d lt. absurd (omega arith); apart = λ i j d lt within. absurd (omega arith) }
AreNames-numbered prefix (suc n) letter few =
    subst (λ k. AreNames (numbered prefix k)) (add-one n) (rw (numbered-more prefix n)
    (AreNames-push (numbered prefix n) (numbered_name prefix n) (AreNames-numbered prefix n letter (omega arith)) (IsName-numbered_name prefix n letter (omega arith)) (numbered-free prefix n (omega arith)) (omega (arith, length-numbered prefix n))))

-- of names that stand once each, no more are taken than there are names
taken_few : (names all : List (List ℕ)) → AllPairs (λ x y. x ≢ y) all → length (filter (is_taken names) all) ≤ length names
taken_few names all apart =
    length-le_from_is_member nat_list_eq_equiv (filter (is_taken names) all) names
    (IsDistinct-from_AllPairs bytes_eq-Decides (filter (is_taken names) all) (AllPairs-filter (λ x y. x ≢ y) (is_taken names) all apart))
    (λ name there. All-contains (λ x. is_taken names x ≡ true) (filter (is_taken names) all) name (filter_passes (is_taken names) all) ((is_member-Decides bytes_eq-Decides (filter (is_taken names) all) name).0 there))

pub enough_spare : (names : List (List ℕ)) (extra : ℕ) → length names + extra ≤ MOST_LINES → extra ≤ length (spare_names names)
enough_spare names extra few =
    let kept = AreNames-numbered 122 MOST_LINES (omega arith, omega arith) (omega arith) in
    omega (
      arith,
      taken_few names (numbered 122 MOST_LINES) kept.apart,
      length-filter_both (is_taken names) (λ name. not (is_taken names name)) (λ name. refl) (numbered 122 MOST_LINES),
      length-numbered 122 MOST_LINES,
    )

-- ---- the names, found one after another

contains_one : {X : Type 0} (y : X) (xs ys : List X) (x : X) (b : Bool) → Contains (cond b (y ∷ ys) ys) x → (Contains ys x → Contains xs x) → Contains (y ∷ xs) x
contains_one y xs ys x true there rest = elim (Contains-append_cases (y ∷ []) ys x there) [
  | inl first ↦ Contains-append_left (y ∷ []) xs x first
  | inr later ↦ Contains-append_right (y ∷ []) xs x (rest later)
]
contains_one y xs ys x false there rest = Contains-append_right (y ∷ []) xs x (rest there)

contains_filtered : {X : Type 0} (p : X → Bool) (xs : List X) (x : X) → Contains (filter p xs) x → Contains xs x
contains_filtered p [] x (k, lt, e) = absurd (omega arith)
contains_filtered p (y ∷ xs) x there = contains_one y xs (filter p xs) x (p y) there (contains_filtered p xs x)

-- the names before line n of z0, z1, .. that are free, as many as are wanted
abbrev pub found : List (List ℕ) → ℕ → ℕ → List (List ℕ)
found names extra n = take extra (filter (λ name. not (is_taken names name)) (numbered 122 n))

-- the name of line n is not among the names and those that were found before it
pub found-free : (names : List (List ℕ)) (extra n : ℕ) (name : List ℕ) → n < MOST_LINES → is_taken names name ≡ false → name ≡ numbered_name 122 n
    → Contains (names ++ found names extra n) name → ⊥
found-free names extra n name few none is there =
    let all = filter (λ x. not (is_taken names x)) (numbered 122 n) in
    elim (Contains-append_cases names (take extra all) name there) [
      | inl old ↦ false≢true (sym none ∙ (is_member-Decides bytes_eq-Decides names name).1 old)
      | inr new ↦
          let whole : Contains (take extra all ++ drop extra all) name = Contains-append_left (take extra all) (drop extra all) name new in
          let among : Contains all name = subst (λ (xs : List (List ℕ)). Contains xs name) (take-append-drop extra all) whole in
          let one = contains_filtered (λ x. not (is_taken names x)) (numbered 122 n) name among in
          numbered-free 122 n (omega arith) (subst (Contains (numbered 122 n)) is one)
    ]

filter-one : (names : List (List ℕ)) (n : ℕ) (b : Bool) → is_taken names (numbered_name 122 n) ≡ b
    → filter (λ name. not (is_taken names name)) (numbered 122 (n + 1)) ≡ filter (λ name. not (is_taken names name)) (numbered 122 n) ++ cond b [] (numbered_name 122 n ∷ [])
filter-one names n b is = grind (arith, is_taken, numbered-more, filter-append, numbered_name)

-- a name that is wanted and free is found
found-more : (names : List (List ℕ)) (extra n : ℕ) → is_taken names (numbered_name 122 n) ≡ false → length (found names extra n) < extra
    → found names extra (n + 1) ≡ found names extra n ++ numbered_name 122 n ∷ []
found-more names extra n none some =
    let all = filter (λ x. not (is_taken names x)) (numbered 122 n) in
    let short : length all < extra = omega (arith, length-take extra all) in
    let long : length (all ++ numbered_name 122 n ∷ []) ≤ extra = omega (arith, length-append all (numbered_name 122 n ∷ [])) in
    ap (take extra) (filter-one names n false none) ∙ take_all extra (all ++ numbered_name 122 n ∷ []) long ∙ sym (ap (λ xs. xs ++ numbered_name 122 n ∷ []) (take_all extra all (omega arith)))

-- a name that is taken is left out
found-taken : (names : List (List ℕ)) (extra n : ℕ) → is_taken names (numbered_name 122 n) ≡ true → found names extra (n + 1) ≡ found names extra n
found-taken names extra n one = ap (take extra) (filter-one names n true one ∙ append-nil _)

-- and nothing more is found if there are enough
found-enough : (names : List (List ℕ)) (extra n : ℕ) → extra ≤ length (found names extra n) → found names extra (n + 1) ≡ found names extra n
found-enough names extra n enough = go (is_taken names (numbered_name 122 n)) refl
  where
    go : (b : Bool) → is_taken names (numbered_name 122 n) ≡ b → found names extra (n + 1) ≡ found names extra n
    go b is =
        let all = filter (λ x. not (is_taken names x)) (numbered 122 n) in
        ap (take extra) (filter-one names n b is) ∙ take-append-le extra all _ (omega (arith, length-take extra all))

-- what is added is the names that were not there, until there are enough
pub found-step : (names : List (List ℕ)) (extra n : ℕ) (wide : List (List ℕ)) → wide ≡ names ++ found names extra n
    → (nat_lt (length wide) (length names + extra) && not (is_taken names (numbered_name 122 n))) ≡ true
    → wide ++ numbered_name 122 n ∷ [] ≡ names ++ found names extra (n + 1)
found-step names extra n wide so_far wanted = grind (arith, and_parts, ltb-true, length-append, is_taken, numbered_name, taken_not, append_assoc, found-more)

-- and nothing else
pub found-stays : (names : List (List ℕ)) (extra n : ℕ) (wide : List (List ℕ)) → wide ≡ names ++ found names extra n
    → (nat_lt (length wide) (length names + extra) && not (is_taken names (numbered_name 122 n))) ≡ false
    → wide ≡ names ++ found names extra (n + 1)
found-stays names extra n wide so_far other = grind (arith, length-append, is_taken, numbered_name, found-taken, found-enough, ltb-false)

pub length-added_names : (names : List (List ℕ)) (extra : ℕ) → length names + extra ≤ MOST_LINES → length (added_names names extra) ≡ extra
length-added_names names extra few = omega (arith, length-take extra (spare_names names), enough_spare names extra few)

-- what a search for a name answers
pub taken_from_find : (names : List (List ℕ)) (name : List ℕ) (r : Option ℕ) → (r ≡ None → Contains names name → ⊥) → ((Contains names name → ⊥) → r ≡ None)
    → is_some r ≡ is_taken names name
taken_from_find names name r absent free = elim (cases_Bool (is_taken names name)) [
  | inl is ↦ go r is absent
  | inr other ↦ ap is_some (free (λ there. false≢true (sym other ∙ (is_member-Decides bytes_eq-Decides names name).1 there))) ∙ sym other
]
  where
    go : (r : Option ℕ) → is_taken names name ≡ true → (r ≡ None → Contains names name → ⊥) → is_some r ≡ is_taken names name
    go None is absent = absurd (absent refl ((is_member-Decides bytes_eq-Decides names name).0 is))
    go (Some line) is absent = sym is

-- the name of a line of z0, z1, ..
spare_at : (line : ℕ) (name : List ℕ) → line < MOST_LINES → slice_get (numbered 122 MOST_LINES) line ≡ Some name → name ≡ numbered_name 122 line
spare_at line name few at =
    sym (get_or_from_slice_get (numbered 122 MOST_LINES) line name name at) ∙ get_or-map-range_with_len (numbered_name 122) 0 MOST_LINES line line name few (omega arith)

-- the same, among names that are these
pub spare_is : (spare : List (List ℕ)) (line : ℕ) (name : List ℕ) → spare ≡ numbered 122 MOST_LINES → line < length spare → slice_get spare line ≡ Some name
    → (line < MOST_LINES) × (name ≡ numbered_name 122 line)
spare_is spare line name is within at = grind (arith, MOST_LINES, length-numbered, spare_at, slice_get)

pub spare-IsName : (line : ℕ) (name : List ℕ) → line < MOST_LINES → name ≡ numbered_name 122 line → IsName name
spare-IsName line name few is = subst IsName (sym is) (IsName-numbered_name 122 line (omega arith, omega arith) (omega arith))

-- all were looked at
pub found-whole : (names : List (List ℕ)) (extra line : ℕ) (wide : List (List ℕ)) → wide ≡ names ++ found names extra line → line ≡ length (numbered 122 MOST_LINES)
    → wide ≡ names ++ added_names names extra
found-whole names extra line wide so_far all = so_far ∙ ap (λ n. names ++ found names extra n) (all ∙ length-numbered 122 MOST_LINES)
