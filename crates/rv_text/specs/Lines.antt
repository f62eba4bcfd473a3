-- The lines of a text. A line feed ends a line; the last line may lack it. A text that ends with a line feed has no
-- further line, and an empty text has none.
use Rattle.std.specs.Prelude.{ℕ, List, [], ◌∷◌, ◌++◌, ◌==◌, if◌then◌else◌}
use Rattle.std.specs.List.{position_or_len}
use Rattle.rv_text.specs.Bytes.{line_feed}

-- the lines that line feeds end in the bytes, after the bytes of a line that was begun
abbrev pub ended_after : List ℕ → List ℕ → List (List ℕ)
ended_after begun [] = []
ended_after begun (c ∷ cs) = if c == line_feed then begun ∷ ended_after [] cs else ended_after (begun ++ c ∷ []) cs

-- the bytes after the last line feed in the bytes, after the bytes of a line that was begun
abbrev pub begun_after : List ℕ → List ℕ → List ℕ
begun_after begun [] = begun
begun_after begun (c ∷ cs) = if c == line_feed then begun_after [] cs else begun_after (begun ++ c ∷ []) cs

-- what stands after the last whole line is a line, where there is anything
abbrev pub last_line : List ℕ → List (List ℕ)
last_line [] = []
last_line (c ∷ cs) = (c ∷ cs) ∷ []

-- the lines of a text
abbrev pub lines_of : List ℕ → List (List ℕ)
lines_of text = ended_after [] text ++ last_line (begun_after [] text)

-- where the first line feed stands in the bytes, or how many they are
abbrev pub first_end : List ℕ → ℕ
first_end bytes = position_or_len (λ b. b == line_feed) bytes
