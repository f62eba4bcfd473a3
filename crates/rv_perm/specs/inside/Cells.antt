-- The numbers of a text as they are sent, one after another.
use Rattle.std.specs.Prelude.{ℕ, ◌+◌, ◌==◌, if◌then◌else◌, List, [], ◌∷◌, ◌++◌, decimal}
use Rattle.rv_text.specs.Bytes.{line_feed, space}

-- a number at its column of a line: after a space but at the first, and before a line feed at the sixteenth
abbrev pub cell : ℕ → ℕ → List ℕ
cell column number =
    (if column == 0 then [] else space ∷ []) ++ (decimal number ++ (if column == 15 then line_feed ∷ [] else []))

abbrev pub next_column : ℕ → ℕ
next_column column = if column == 15 then 0 else column + 1

-- the end of a line that was begun
abbrev pub row_end : ℕ → List ℕ
row_end column = if column == 0 then [] else line_feed ∷ []

-- numbers from a column on
abbrev pub cells : ℕ → List ℕ → List ℕ
cells column [] = row_end column
cells column (n ∷ ns) = cell column n ++ cells (next_column column) ns
