-- Words that are set side by side, and back.
use Rattle.std.proofs.Common.{◌≡◌, ◌∙◌, ℕ, ◌+◌, ◌*◌, ◌/◌, ◌%◌, ◌^◌, ◌<◌, ◌≤◌, Bool, false, min, List, [], ◌∷◌, length, map, get_or, set, sym, ap, inl, inr, arith}
use Rattle.std.proofs.Math.ListN.{get_or-append}
use borrow.Rule.Slice.PartMut.{post_of, put_mid}
use Rattle.std.specs.List.{between}
use Rattle.std.proofs.lemmas.Bool.{cases_eq, cases_lt, false≢true}
use Rattle.std.proofs.lemmas.List.{ext_get_or, get_or-append_right, get_or-map, get_or-set_other, get_or-set_same, get_or-take, get_or_past, length-append, length-drop, length-map, length-take, length-take-le}
use Rattle.std.proofs.lemmas.List.Edits.{get_or-between, length-between}
use Rattle.rv_gate.specs.Word.{has, bit_of, word_with}
use Rattle.rv_gate.specs.inside.laws.WordLaws.{bit_of-word_with, length-word_with}
use Rattle.rv_gate.proofs.LineSets.{below-Within, has-above, has-none}
use Rattle.rv_many.specs.Column.{column, row_bit}
use Rattle.rv_many.specs.declared.row.Row.{Row}
use Rattle.rv_many.proofs.Rows.{of_part}
use Rattle.rv_many.proofs.Columns.{bit_of-column, blank, length-column}

-- the row of a line has the bit of each word on it
abbrev pub IsRowOf : List (List Bool) → ℕ → Row → Type 0
IsRowOf words line row = (j : ℕ) → j < length words → row_bit row j ≡ bit_of (get_or words j []) line

-- the row that parts make
pub row_of_parts : (words : List (List Bool)) (line a b c d : ℕ)
    → ((i : ℕ) → i < 64 → 0 + i < length words → has a i ≡ bit_of (get_or words (0 + i) []) line)
    → ((i : ℕ) → i < 64 → 64 + i < length words → has b i ≡ bit_of (get_or words (64 + i) []) line)
    → ((i : ℕ) → i < 64 → 128 + i < length words → has c i ≡ bit_of (get_or words (128 + i) []) line)
    → ((i : ℕ) → i < 64 → 192 + i < length words → has d i ≡ bit_of (get_or words (192 + i) []) line)
    → length words ≤ 256 → IsRowOf words line (record { parts = a ∷ b ∷ c ∷ d ∷ [] })
row_of_parts words line a b c d pa pb pc pd few j lt =
    of_part (λ k. (i : ℕ) → i < 64 → 64 * k + i < length words → has (get_or (a ∷ b ∷ c ∷ d ∷ []) k 0) i ≡ bit_of (get_or words (64 * k + i) []) line)
    pa pb pc pd j (omega arith) (j % 64) (omega arith) (omega arith)
    ∙ ap (λ k. bit_of (get_or words k []) line) (omega arith)

-- what holds of each entry before a place, and of the entry that is set there, holds of each one before the next place
pub set_below : {A : Type 0} (P : ℕ → A → Type 0) (xs : List A) (i : ℕ) (x d : A) → i < length xs → ((k : ℕ) → k < i → P k (get_or xs k d)) → P i x
    → (k : ℕ) → k < i + 1 → P k (get_or (set xs i x) k d)
set_below P xs i x d lt before here k below =
    elim (cases_eq k i) [
      | inl same ↦ rw (same, get_or-set_same xs i x d lt) here
      | inr other ↦ rw (get_or-set_other xs i k x d other) (before k (omega arith))
    ]

-- the word of a place, whose bits the rows have
pub column_is : (words : List (List Bool)) (rows : List Row) (j : ℕ) → length (get_or words j []) ≡ length rows → ((line : ℕ) → line < length rows → bit_of (column rows j) line ≡ bit_of (get_or words j []) line)
    → column rows j ≡ get_or words j []
column_is words rows j long bits = ext_get_or false (column rows j) (get_or words j []) (length-column rows j ∙ sym long) (λ line h. bits line (omega (arith, length-column rows j)))

-- words that are each what a function makes of the word before
pub words_run : (f : List Bool → List Bool) (old new : List (List Bool)) → length new ≡ length old → ((j : ℕ) → j < length old → get_or new j [] ≡ f (get_or old j [])) → new ≡ map f old
words_run f old new count each =
    ext_get_or [] new (map f old) (count ∙ sym (length-map old f)) (λ j h. let lt : j < length old = omega (arith, count) in each j lt ∙ sym (get_or-map f old j [] [] lt))

-- ---- a part of a list in its place

pub part_before : {A : Type 0} (a k i : ℕ) (xs ys : List A) (d : A) → a ≤ length xs → i < a → get_or (put_mid a k xs ys) i d ≡ get_or xs i d
part_before a k i xs ys d within lt = grind (arith, length-take-le, get_or-append, post_of, get_or-take)

pub part_in : {A : Type 0} (a k j : ℕ) (xs ys : List A) (d : A) → a ≤ length xs → j < length ys → get_or (put_mid a k xs ys) (a + j) d ≡ get_or ys j d
part_in a k j xs ys d within lt = grind (arith, get_or-append_right, post_of, length-take-le, get_or-append)

pub part_long : {A : Type 0} (a k : ℕ) (xs ys : List A) → a + k ≤ length xs → length ys ≡ k → length (put_mid a k xs ys) ≡ length xs
part_long a k xs ys within long = grind (arith, put_mid, post_of, length-append, length-drop, length-take)

-- an entry of a part of at most eight entries, or of none
pub part_at : {A : Type 0} (xs : List A) (a j : ℕ) (d : A) → j < 8 → get_or (between a (min (length xs) (a + 8)) xs) j d ≡ get_or xs (a + j) d
part_at xs a j d lt =
    elim (cases_lt (a + j) (length xs)) [
      | inl inside ↦ get_or-between xs a _ j d (omega arith)
      | inr past ↦ get_or_past _ j d (omega (arith, length-between xs a (min (length xs) (a + 8)) (omega arith))) ∙ sym (get_or_past xs (a + j) d past)
    ]

-- ---- the bits of a column

-- the bit of any line, of one that is not there too
pub bit_of-column_any : (rows : List Row) (line j : ℕ) → bit_of (column rows j) line ≡ row_bit (get_or rows line blank) j
bit_of-column_any rows line j =
    elim (cases_lt line (length rows)) [
      | inl lt ↦ bit_of-column rows line j blank lt
      | inr past ↦ get_or_past (column rows j) line false (omega (arith, length-column rows j)) ∙ sym (ap (λ row. row_bit row j) (get_or_past rows line blank past) ∙ ap (λ part. has part (j % 64)) (get_or_past [] (j / 64) 0 (omega arith)) ∙ has-none (j % 64))
    ]

-- the lines whose bits are those of a column
pub column_by_lines : (rows : List Row) (j lines : ℕ) → length rows ≤ 64 → lines < 2 ^ 64 → ((i : ℕ) → i < 64 → has lines i ≡ bit_of (column rows j) i)
    → (lines < 2 ^ length rows) × (word_with (length rows) lines ≡ column rows j)
column_by_lines rows j lines few small bits =
    let n = length rows in
    let long = length-column rows j in (
      below-Within lines n (λ line on.
          elim (cases_lt line n) [
            | inl lt ↦ lt
            | inr past ↦
                (elim (cases_lt line 64) [
                  | inl lt ↦ absurd (false≢true (sym (get_or_past (column rows j) line false (omega (arith, long))) ∙ sym (bits line lt) ∙ on))
                  | inr above ↦ absurd (false≢true (sym (has-above lines 64 line small above) ∙ on))
                ])
          ]),
      ext_get_or false (word_with n lines) (column rows j) (length-word_with n lines ∙ sym long) (λ i h.
          let lt : i < n = omega (arith, length-word_with n lines) in
          bit_of-word_with n lines i lt ∙ bits i (omega arith)),
    )
