-- Words that stand side by side.
use Rattle.std.specs.Prelude.{ℕ, ◌/◌, ◌%◌, Bool, List, map, slice_index_or}
use Rattle.rv_gate.specs.Word.{has}
use Rattle.rv_many.specs.declared.row.Row.{Row}
use Rattle.rv_many.specs.declared.row.TheConstants.{PART_WORDS}

-- the bit of the word of a place
abbrev pub row_bit : Row → ℕ → Bool
row_bit row j = has (slice_index_or row.parts (j / PART_WORDS) 0) (j % PART_WORDS)

-- the word of a place: a row for each line, which has the bit of each word on that line
abbrev pub column : List Row → ℕ → List Bool
column rows j = map (λ row. row_bit row j) rows
