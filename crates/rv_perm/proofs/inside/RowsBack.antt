-- Rows of numbers that were written are read back.
use Rattle.std.proofs.Common.{◌≡◌, ℕ, suc, ◌+◌, ◌<◌, ◌≤◌, ◌^◌, min, true, false, cond, List, [], ◌∷◌, ◌++◌, length, map, Ok, refl, sym, ap, ◌∙◌, append_assoc, arith, add-zero, nat_eq, nat_lt, decimal}
use Rattle.std.specs.List.{flat_map, AllByRecursion}
use Rattle.std.proofs.lemmas.Bool.{lt-ltb}
use Rattle.std.proofs.lemmas.List.{append-nil, length-append}
use Rattle.rv_text.specs.Tokens.{plain}
use Rattle.rv_text.specs.Spelled.{words_line}
use Rattle.rv_text.specs.inside.Writable.{AreLines}
use Rattle.rv_text.proofs.inside.Spelled.{tokens_of-words_line, AreOneLine-plain}
use Rattle.rv_reader.specs.Rules.{lines_read}
use Rattle.rv_perm.specs.Line.{separators}
use Rattle.rv_perm.specs.inside.State.{Given, with_number}
use Rattle.rv_perm.specs.inside.Steps.{numbers_given, line_given, line_rules}
use Rattle.rv_perm.specs.Text.{number_lines}
use Rattle.rv_text.proofs.inside.Decimal.{is_decimal-decimal, decimal_value-decimal, decimal_no_dot}
use Rattle.rv_perm.proofs.Rows.{last_row, rows_from, rows_are_from}
use Rattle.rv_perm.proofs.inside.Numerals.{Small, separators_no_digit, decimal_words}

-- numbers, one after another
abbrev pub with_numbers : Given → List ℕ → Given
with_numbers given [] = given
with_numbers given (n ∷ ns) = with_numbers (with_number given n) ns

with_numbers-append : (given : Given) (a b : List ℕ) → with_numbers given (a ++ b) ≡ with_numbers (with_numbers given a) b
with_numbers-append given [] b = refl
with_numbers-append given (n ∷ a) b = with_numbers-append (with_number given n) a b

numbers_back : (given : Given) (ns : List ℕ) → Small ns → numbers_given given (map plain (map decimal ns)) ≡ Ok (with_numbers given ns)
numbers_back given [] h = refl
numbers_back given (n ∷ ns) h =
    let small : n < 2 ^ 64 = omega (arith, h.0) in
    rw (is_decimal-decimal n small, decimal_value-decimal n small) (numbers_back (with_number given n) ns h.1)

-- a row is a line of numbers
row_back : (given : Given) (number n : ℕ) (ns : List ℕ) → Small (n ∷ ns) → line_given given number (words_line (map decimal (n ∷ ns))) ≡ Ok (with_numbers given (n ∷ ns))
unfolding line_given
row_back given number n ns h =
    let tokens = tokens_of-words_line false [] (map decimal (n ∷ ns)) (decimal_words [] (λ c d. refl) (n ∷ ns) h) in
    let parted = tokens_of-words_line false separators (map decimal (n ∷ ns)) (decimal_words separators separators_no_digit (n ∷ ns) h) in
    rw (tokens, decimal_no_dot n (omega (arith, h.0)), parted) (numbers_back given (n ∷ ns) h)

-- each row has a number
abbrev pub AreRows : List (List ℕ) → Type 0
AreRows rows = AllByRecursion (λ row. (0 < length row) × Small row) rows

rows_back : (before : ℕ) (given : Given) (rows : List (List ℕ)) → AreRows rows
    → lines_read line_rules before given (map words_line (map (λ row. map decimal row) rows)) ≡ Ok (with_numbers given (flat_map (λ row. row) rows))
rows_back before given [] h = refl
rows_back before given ([] ∷ rows) h = absurd (omega (arith, h.0.0))
rows_back before given ((n ∷ ns) ∷ rows) h =
    rw (row_back given (before + 1) n ns h.0.1)
    (rows_back (before + 1) (with_numbers given (n ∷ ns)) rows h.1 ∙ ap Ok (sym (with_numbers-append given (n ∷ ns) (flat_map (λ row. row) rows))))

-- ---- the rows of numbers

small-push : (row : List ℕ) (n : ℕ) → Small row → n < 65536 → Small (row ++ n ∷ [])
small-push [] n h k = (k, tt)
small-push (m ∷ row) n h k = (h.0, small-push row n h.1 k)

last_row_is : (row : List ℕ) → Small row → AreRows (last_row row)
last_row_is [] h = tt
last_row_is (m ∷ row) h = ((omega arith, h), tt)

rows_are : (row ns : List ℕ) → Small row → Small ns → AreRows (rows_from row ns)
rows_are row [] h k = last_row_is row h
rows_are row (n ∷ ns) h k = elim (nat_eq (length row) 15) as (λ t. AreRows (cond t ((row ++ n ∷ []) ∷ rows_from [] ns) (rows_from (row ++ n ∷ []) ns))) [
  | true ↦ ((omega (arith, length-append row (n ∷ [])), small-push row n h k.0), rows_are [] ns tt k.1)
  | false ↦ rows_are (row ++ n ∷ []) ns (small-push row n h k.0) k.1
]

last_row_joined : (row : List ℕ) → flat_map (λ r. r) (last_row row) ≡ row ++ []
last_row_joined [] = refl
last_row_joined (m ∷ row) = refl

rows_joined : (row ns : List ℕ) → flat_map (λ r. r) (rows_from row ns) ≡ row ++ ns
rows_joined row [] = last_row_joined row
rows_joined row (n ∷ ns) = elim (nat_eq (length row) 15) as (λ t. flat_map (λ r. r) (cond t ((row ++ n ∷ []) ∷ rows_from [] ns) (rows_from (row ++ n ∷ []) ns)) ≡ row ++ (n ∷ ns)) [
  | true ↦ ap (λ (xs : List ℕ). (row ++ n ∷ []) ++ xs) (rows_joined [] ns) ∙ append_assoc row (n ∷ []) ns
  | false ↦ rows_joined (row ++ n ∷ []) ns ∙ append_assoc row (n ∷ []) ns
]

-- so few numbers are all kept
numbers_kept : (given : Given) (ns : List ℕ) → given.count + length ns ≤ 65536 → Small ns → with_numbers given ns ≡ record given { numbers = given.numbers ++ ns; count = given.count + length ns }
numbers_kept given [] few h = rw (append-nil given.numbers, add-zero) refl
numbers_kept given (n ∷ ns) few h =
    let fewer : given.count + 1 + length ns ≤ 65536 = omega (arith, few) in
    let room : nat_lt given.count 65536 ≡ true = lt-ltb _ _ (omega (arith, few)) in
    let small : min n 65536 ≡ n = omega (arith, h.0) in
    let one : with_number given n ≡ record given { numbers = given.numbers ++ n ∷ []; count = given.count + 1 } = rw (room, small) refl in
    let counted : given.count + 1 + length ns ≡ given.count + suc (length ns) = omega arith in
    let rest = numbers_kept (record given { numbers = given.numbers ++ n ∷ []; count = given.count + 1 }) ns fewer h.1 in
    ap (λ (g : Given). with_numbers g ns) one ∙ rest ∙ rw (append_assoc given.numbers (n ∷ []) ns, counted) refl

-- the lines of numbers are lines
rows_lines : (rows : List (List ℕ)) → AreRows rows → AreLines (map (λ row. map decimal row) rows)
rows_lines [] h = tt
rows_lines (row ∷ rows) h = (AreOneLine-plain [] (map decimal row) (decimal_words [] (λ c d. refl) row h.0.1), rows_lines rows h.1)

pub number_lines_are : (ns : List ℕ) → Small ns → AreLines (number_lines ns)
number_lines_are ns h = rw (rows_are_from ns) (rows_lines (rows_from [] ns) (rows_are [] ns tt h))

-- the numbers of the text are read back
pub numbers_read : (before : ℕ) (given : Given) (ns : List ℕ) → given.count + length ns ≤ 65536 → Small ns
    → lines_read line_rules before given (map words_line (number_lines ns)) ≡ Ok (record given { numbers = given.numbers ++ ns; count = given.count + length ns })
numbers_read before given ns few h = grind (arith, rows_are_from, rows_back, rows_from, rows_are, rows_joined, numbers_kept)
