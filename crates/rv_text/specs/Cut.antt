-- The lines of a text, by the text that they make again.
use Rattle.std.specs.Prelude.{◌≡◌, ℕ, All, List, [], ◌∷◌, ◌++◌}
use Rattle.rv_text.specs.Bytes.{line_feed}
use Rattle.rv_text.specs.Lines.{last_line}
use Rattle.rv_text.specs.Spelled.{IsOneLine}

-- lines, each with its line feed
abbrev pub ended_lines : List (List ℕ) → List ℕ
ended_lines [] = []
ended_lines (line ∷ lines) = line ++ (line_feed ∷ ended_lines lines)

-- These are the lines of a text: those that line feeds end, and the rest, where there is any. Joined again
-- they are the text, and none of them holds a line feed.
pub record IsCut (text : List ℕ) (lines : List (List ℕ)) : Type 0 where
  pub ended : List (List ℕ)
  pub rest : List ℕ
  pub text_is : text ≡ ended_lines ended ++ rest
  pub lines_are : lines ≡ ended ++ last_line rest
  pub ended_are : All IsOneLine ended
  pub rest_is : IsOneLine rest
