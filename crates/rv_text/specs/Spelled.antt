-- Texts as lines of words, as writers send them.
use Rattle.std.specs.Prelude.{◌≡◌, ℕ, true, not, List, [], ◌∷◌, ◌++◌, ◌==◌, if◌then◌else◌}
use Rattle.std.specs.List.{list_all}
use Rattle.rv_text.specs.Bytes.{line_feed, space, quote}
use Rattle.rv_text.specs.Tokens.{Lexeme}

-- words, each after a space
abbrev pub more_words : List (List ℕ) → List ℕ
more_words [] = []
more_words (w ∷ ws) = space ∷ (w ++ more_words ws)

-- words with single spaces between them
abbrev pub words_line : List (List ℕ) → List ℕ
words_line [] = []
words_line (w ∷ ws) = w ++ more_words ws

-- lines of words, each with its line feed
abbrev pub spelled : List (List (List ℕ)) → List ℕ
spelled [] = []
spelled (ws ∷ lines) = words_line ws ++ (line_feed ∷ spelled lines)

-- bytes without a line feed
abbrev pub IsOneLine : List ℕ → Type 0
IsOneLine w = list_all (λ c. not (c == line_feed)) w ≡ true

-- a token as it is written
abbrev pub written : Lexeme → List ℕ
written t = if t.quoted then quote ∷ (t.bytes ++ quote ∷ []) else t.bytes
