-- The text of a permutation: lines of words.
use Rattle.std.specs.Prelude.{ℕ, ◌+◌, ◌*◌, ◌/◌, List, ◌++◌, length, map, take, drop, decimal}
use Rattle.std.specs.List.{range_with_len}
use Rattle.rv_text.specs.Spelled.{spelled}
use Rattle.rv_marks.specs.Row.{mark_lines}
use Rattle.rv_perm.specs.Marked.{Marked}

-- row k: sixteen of the numbers, from place 16 * k on, or as many as there are
abbrev pub row_at : List ℕ → ℕ → List ℕ
row_at numbers k = take 16 (drop (16 * k) numbers)

abbrev pub rows_of : List ℕ → List (List ℕ)
rows_of numbers = map (row_at numbers) (range_with_len 0 ((length numbers + 15) / 16))

-- the numbers, sixteen to a line
abbrev pub number_lines : List ℕ → List (List (List ℕ))
number_lines numbers = map (λ row. map decimal row) (rows_of numbers)

-- the one text of a permutation with marks
unfoldable pub text_of : Marked → List ℕ
text_of m = spelled (mark_lines m.constants m.garbage ++ number_lines m.table.images)
