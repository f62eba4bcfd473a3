-- How the rows of a drawing stand below one another.
use Rattle.std.specs.Prelude.{◌≡◌, ℕ, ◌+◌, ◌*◌, ◌≤◌, true, List, [], length, map, All, Option, Some}
use Rattle.rv_text.specs.Lines.{lines_of}
use Rattle.rv_text.specs.Tokens.{tokens_of}
use Rattle.rv_draw.specs.Drawing.{widest, width}
use Rattle.rv_draw.specs.Reading.{Row, blocks_of, each_of, row_of}

-- the rows of each block of a text, if they are rows
unfoldable pub rows_in : List ℕ → Option (List (List Row))
rows_in text =
    each_of (λ block. each_of row_of block) (blocks_of (map (λ line. tokens_of true [] line) (lines_of text)))

-- A block has no more columns of gates than asked, of three characters each. In each row the label of the input, the
-- blank after it and the wire come to as many characters, so the columns, and the labels of the outputs,
-- stand below one another.
pub record IsAligned (most : ℕ) (rows : List Row) : Type 0 where
  pub columns : ℕ
  pub few : columns ≤ most
  pub reach : All (λ (row : Row). width row.input_label + 1 + length row.symbols
      ≡ widest (map (λ (r : Row). r.input_label) rows) + 3 + 3 * columns) rows

-- the same of all blocks of a text
pub record IsLaidOut (most : ℕ) (text : List ℕ) : Type 0 where
  pub blocks : List (List Row)
  pub read : rows_in text ≡ Some blocks
  pub each : All (IsAligned most) blocks
