-- Rules of a line, in the order in which they are looked at.
use Rattle.std.specs.Prelude.{ℕ, Bool, not, ◌&&◌, List, [], ◌∷◌, Result, Ok}
use Rattle.std.specs.Str.{bytes_eq}
use Rattle.rv_text.specs.Tokens.{Lexeme}
use Rattle.rv_reader.specs.Rules.{◌>>=◌}

-- this word, without quotes
abbrev pub is_bare : Lexeme → List ℕ → Bool
is_bare w word = not w.quoted && bytes_eq w.bytes word

-- a rule for each operand, in their order, each on what those before it gave
abbrev pub in_order : {A : Type 0} → (A → Lexeme → Result A ℕ) → A → List Lexeme → Result A ℕ
in_order rule x [] = Ok x
in_order rule x (w ∷ ws) = rule x w >>= λ next. in_order rule next ws
