-- Lists of names: one more name, names that a set holds, and numbered names.
use Rattle.std.proofs.Common.{◌≡◌, ◌≢◌, ◌↔◌, ℕ, zero, suc, ◌+◌, ◌%◌, ◌^◌, ◌<◌, ◌≤◌, true, false, List, [], ◌∷◌, ◌++◌, map, length, take, slice_get, position, is_some, Option, Some, None, not, Bool, cond, get_or, AllPairs, Contains, decimal, refl, sym, ◌∙◌, ap, inl, inr, arith, length-append}
use Rattle.std.proofs.lemmas.Bool.{cases_Bool, or_right, ne_eqb, lt-ltb, true≢false, cases_eq, cases_lt}
use Rattle.std.proofs.lemmas.Fmt.{decimal_by_steps, decimal_injective}
use Rattle.std.proofs.lemmas.List.{map-append, length-map, length-take-le, take_more, get_or-take, get_or_default}
use Rattle.std.proofs.lemmas.List.Elements.{All-push, Contains-append_right}
use Rattle.std.proofs.lemmas.List.Folds.{list_all-append}
use Rattle.std.proofs.lemmas.List.FromFn.{length-map-range_with_len, get_or-map-range_with_len, map-range_with_len_more}
use Rattle.std.proofs.lemmas.List.Quantifiers.{all_pairs_push, position-Some}
use Rattle.std.proofs.lemmas.Option.{get_or_from_slice_get, slice_get-get_or, slice_get_within}
use Rattle.std.proofs.lemmas.Slice.Eq.{bytes_eq-Decides}
use Rattle.std.specs.Global.{Vec}
use Rattle.std.specs.List.{list_all, list_any, prefix_len}
use Rattle.std.specs.Str.{bytes_eq}
use Rattle.indexmap.specs.IndexSet.{insert_key}
use Rattle.rv_gate.specs.declared.word.TheConstants.{MOST_LINES}
use Rattle.rv_gate.specs.Names.{is_name_byte, IsName, AreNames, IsPrefixByte, numbered_name, numbered}

-- ---- lists of names

pub AreNames-push : (names : List (List ℕ)) (name : List ℕ) → AreNames names → IsName name → (Contains names name → ⊥) → length names < MOST_LINES
    → AreNames (names ++ name ∷ [])
AreNames-push names name kept is free room = record {
  few = omega (arith, length-append names (name ∷ []));
  each = All-push IsName names name kept.each is;
  apart = all_pairs_push (λ x y. x ≢ y) names name kept.apart (λ k d lt e. free (k, lt, get_or_default names k name d lt ∙ e));
}

-- the bytes of vectors
abbrev pub bytes_of : Vec ℕ → List ℕ
bytes_of name = name.items

-- a name that no key has
pub absent : (name : List ℕ) (keys : List (Vec ℕ)) → (Contains (map bytes_of keys) name → ⊥) → list_any (λ key. bytes_eq name key.items) keys ≡ false
absent name [] free = refl
absent name (key ∷ keys) free =
    elim (cases_Bool (bytes_eq name key.items)) [
      | inl same ↦ absurd (free (0, omega arith, sym ((bytes_eq-Decides name key.items).0 same)))
      | inr other ↦ rw other (absent name keys (λ there. free (Contains-append_right (key.items ∷ []) (map bytes_of keys) name there)))
    ]

-- the names after an insertion
pub names_push : (old new : List (Vec ℕ)) (name : Vec ℕ) → (Contains (map bytes_of old) name.items → ⊥)
    → new ≡ insert_key (λ x y. bytes_eq x.items y.items) old name → map bytes_of new ≡ map bytes_of old ++ name.items ∷ []
names_push old new name free e =
    let none = absent name.items old free in
    ap (map bytes_of) e ∙ rw (none, map-append) refl

-- a name that a line has is among the names
pub Contains-slice_get : (names : List (List ℕ)) (line : ℕ) (name : List ℕ) → slice_get names line ≡ Some name → Contains names name
Contains-slice_get names line name at =
    (line, slice_get_within names line name at, get_or_from_slice_get names line name name at)

-- a name is that of one line alone
place_unique : (names : List (List ℕ)) (name : List ℕ) (i j : ℕ) → AllPairs (λ x y. x ≢ y) names → slice_get names i ≡ Some name → slice_get names j ≡ Some name
    → i ≡ j
place_unique names name i j apart at_i at_j =
    let read_i = get_or_from_slice_get names i name name at_i in
    let read_j = get_or_from_slice_get names j name name at_j in
    elim (cases_eq i j) [
      | inl same ↦ same
      | inr other ↦
          (elim (cases_lt i j) [
            | inl lt ↦ absurd (apart i j name lt (slice_get_within names j name at_j) (read_i ∙ sym read_j))
            | inr ge ↦ absurd (apart j i name (omega arith) (slice_get_within names i name at_i) (read_j ∙ sym read_i))
          ])
    ]

-- a name that is there is found
known : (name : List ℕ) (keys : List (Vec ℕ)) → Contains (map bytes_of keys) name → list_any (λ key. bytes_eq name key.items) keys ≡ true
known name [] (k, lt, e) = absurd (omega arith)
known name (key ∷ keys) (zero, lt, e) = rw ((bytes_eq-Decides name key.items).1 (sym e)) refl
known name (key ∷ keys) (suc k, lt, e) =
    or_right (bytes_eq name key.items) (list_any (λ other. bytes_eq name other.items) keys) (known name keys (k, omega arith, e))

pub prefix_len-map : {A B : Type 0} (f : A → B) (p : B → Bool) (xs : List A) → prefix_len p (map f xs) ≡ prefix_len (λ x. p (f x)) xs
prefix_len-map f p [] = refl
prefix_len-map f p (x ∷ xs) =
    elim (p (f x)) as (λ t. cond t (1 + prefix_len p (map f xs)) 0 ≡ cond t (1 + prefix_len (λ x. p (f x)) xs) 0) [
      | true ↦ ap (λ (n : ℕ). 1 + n) (prefix_len-map f p xs)
      | false ↦ refl
    ]

pub position-map : {A B : Type 0} (f : A → B) (p : B → Bool) (xs : List A) → position p (map f xs) ≡ position (λ x. p (f x)) xs
position-map f p xs = rw (prefix_len-map f (λ y. not (p y)) xs, length-map xs f) refl

-- none of the names before a line has its name
pub free_before : (names : List (List ℕ)) (line : ℕ) (name : List ℕ) → AllPairs (λ x y. x ≢ y) names → slice_get names line ≡ Some name
    → Contains (take line names) name → ⊥
free_before names line name apart at (k, lt, e) =
    let within = slice_get_within names line name at in
    let before : k < line = omega (arith, length-take-le line names (omega arith)) in
    apart k line name before within (sym (get_or-take line names k name before) ∙ e ∙ sym (get_or_from_slice_get names line name name at))

-- the line of a name, and where there is none
pub record IsPlace (names : List (List ℕ)) (name : List ℕ) (place : Option ℕ) : Type 0 where
  pub found : (line : ℕ) → (place ≡ Some line) ↔ (slice_get names line ≡ Some name)
  pub absent : (place ≡ None) ↔ (Contains names name → ⊥)

-- a line that has the name is its place
pub hinted : (names : List (List ℕ)) (name : List ℕ) (line : ℕ) → AllPairs (λ x y. x ≢ y) names → slice_get names line ≡ Some name → IsPlace names name (Some line)
hinted names name line apart at = record {
  found = λ other. (λ e. let same : line ≡ other = cc in rw (← same) at, λ there. ap Some (place_unique names name line other apart at there));
  absent = (λ e there. absurd cc, λ free. absurd (free (Contains-slice_get names line name at)));
}

-- what a look-up answers
module _ (name : List ℕ) (keys : List (Vec ℕ)) (place : Option ℕ) (is : place ≡ position (λ key. bytes_eq name key.items) keys)
    (some : is_some place ≡ list_any (λ key. bytes_eq name key.items) keys) (apart : AllPairs (λ x y. x ≢ y) (map bytes_of keys)) where
  placed : (line : ℕ) → place ≡ Some line → slice_get (map bytes_of keys) line ≡ Some name
  placed line e =
      let names : List (List ℕ) = map bytes_of keys in
      let first = position-Some (bytes_eq name) names line name (position-map bytes_of (bytes_eq name) keys ∙ sym is ∙ e) in
      slice_get-get_or names line name first.0 ∙ ap Some (sym ((bytes_eq-Decides name (get_or names line name)).0 first.1))

  not_none : Contains (map bytes_of keys) name → place ≡ None → ⊥
  not_none there e = true≢false (sym (known name keys there) ∙ sym some ∙ ap is_some e)

  from_line : (line : ℕ) → slice_get (map bytes_of keys) line ≡ Some name → (o : Option ℕ) → place ≡ o → place ≡ Some line
  from_line line at None e = absurd (not_none (Contains-slice_get (map bytes_of keys) line name at) e)
  from_line line at (Some k) e = e ∙ ap Some (place_unique (map bytes_of keys) name k line apart (placed k e) at)

  from_none : (Contains (map bytes_of keys) name → ⊥) → (o : Option ℕ) → place ≡ o → place ≡ None
  from_none free None e = e
  from_none free (Some k) e = absurd (free (Contains-slice_get (map bytes_of keys) k name (placed k e)))

  pub looked_up : IsPlace (map bytes_of keys) name place
  looked_up = record {
    found = λ line. (placed line, λ at. from_line line at place refl);
    absent = (λ e there. not_none there e, λ free. from_none free place refl);
  }

-- one more name as a label
pub labels_more : (names : List (List ℕ)) (old : List (Vec ℕ)) (label : Vec ℕ) (line : ℕ) (name : List ℕ)
    → map bytes_of old ≡ take line names → slice_get names line ≡ Some name → label.items ≡ name → line < length names
    → map bytes_of (old ++ label ∷ []) ≡ take (line + 1) names
labels_more names old label line name so_far at same lt =
    rw (take_more names line name lt, get_or_from_slice_get names line name name at, map-append bytes_of old (label ∷ []), so_far, same) refl

-- ---- numbered names

is_name_byte-high : (byte : ℕ) → 48 ≤ byte → is_name_byte byte ≡ true
is_name_byte-high byte high =
    rw (
      ne_eqb byte 32 (λ e. omega arith),
      ne_eqb byte 9 (λ e. omega arith),
      ne_eqb byte 13 (λ e. omega arith),
      ne_eqb byte 10 (λ e. omega arith),
      ne_eqb byte 35 (λ e. omega arith),
      ne_eqb byte 34 (λ e. omega arith),
    ) refl

list_all_digits : (n : ℕ) → n < 2 ^ 64 → list_all is_name_byte (decimal n) ≡ true
list_all_digits n small =
    decimal_by_steps (λ _ digits. list_all is_name_byte digits ≡ true)
    (λ d lt. rw (is_name_byte-high (48 + d) (omega arith)) refl)
    (λ d front many rest. rw (list_all-append is_name_byte front ((48 + d % 10) ∷ []), rest, is_name_byte-high (48 + d % 10) (omega arith)) refl)
    n small

pub IsName-numbered_name : (prefix line : ℕ) → IsPrefixByte prefix → line < 2 ^ 64 → IsName (numbered_name prefix line)
IsName-numbered_name prefix line letter small =
    rw (
      lt-ltb 0 (length (numbered_name prefix line)) (omega arith),
      ne_eqb prefix 45 (λ e. omega arith),
      ne_eqb prefix 46 (λ e. omega arith),
      is_name_byte-high prefix (omega arith),
      list_all_digits line small,
    ) refl

pub length-numbered : (prefix count : ℕ) → length (numbered prefix count) ≡ count
length-numbered prefix count = length-map-range_with_len (numbered_name prefix) 0 count

pub numbered-free : (prefix line : ℕ) → line < 2 ^ 64 → Contains (numbered prefix line) (numbered_name prefix line) → ⊥
numbered-free prefix line small (k, lt, e) =
    let before : k < line = omega (arith, length-numbered prefix line) in
    let at = get_or-map-range_with_len (numbered_name prefix) 0 line k k (numbered_name prefix line) before (omega arith) in
    let digits : decimal k ≡ decimal line = let whole : numbered_name prefix k ≡ numbered_name prefix line = sym at ∙ e in cc in
    let same = decimal_injective k line (omega arith) small digits in
    omega arith

pub numbered-more : (prefix line : ℕ) → numbered prefix (line + 1) ≡ numbered prefix line ++ numbered_name prefix line ∷ []
numbered-more prefix line = map-range_with_len_more (numbered_name prefix) 0 line line (omega arith)
