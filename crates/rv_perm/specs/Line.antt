-- A line of a text: a directive, or numbers. Whether it is a directive is decided with blanks alone between the tokens.
use Rattle.std.specs.Prelude.{ℕ, false, List, [], ◌∷◌, map, if◌then◌else◌, Option, None}
use Rattle.std.specs.Str.{bytes_eq}
use Rattle.rv_text.specs.Bytes.{begins_with_dot}
use Rattle.rv_text.specs.Decimal.{decimal_value}
use Rattle.rv_text.specs.Tokens.{Lexeme, tokens_of, joined}

-- ---- rows of marks

-- what reads a row makes of the operands after its name, which are joined
abbrev pub marks_after : {M : Type 0} → List ℕ → (List ℕ → Option (List M)) → List Lexeme → Option (List M)
marks_after name row_of [] = None
marks_after name row_of (word ∷ words) = if bytes_eq word.bytes name then row_of (joined words) else None

-- ---- numbers

-- , { } [ ] part numbers, as blanks do
abbrev pub separators : List ℕ
separators = 44 ∷ 123 ∷ 125 ∷ 91 ∷ 93 ∷ []

-- the words of a line that are to be numbers: of a directive, and of a line without tokens, there are none
abbrev pub numerals_of : List ℕ → List Lexeme → List Lexeme
numerals_of line [] = []
numerals_of line (word ∷ words) = if begins_with_dot word.bytes then [] else tokens_of false separators line

abbrev pub numbers_of : List ℕ → List ℕ
numbers_of line = map (λ word. decimal_value word.bytes) (numerals_of line (tokens_of false [] line))
