-- The tokens of a line, by what stands between them.
use Rattle.std.specs.Prelude.{◌≡◌, ◌≢◌, ℕ, ◌<◌, Bool, true, false, not, ◌||◌, ◌==◌, List, [], ◌∷◌, ◌++◌}
use Rattle.std.specs.Prelude.{length, slice_index, if◌then◌else◌}
use Rattle.std.specs.List.{list_all}
use Rattle.rv_text.specs.Bytes.{quote, hash}
use Rattle.rv_text.specs.Tokens.{Lexeme, is_blank}

-- a byte that ends a token without quotes: a blank, or the one that begins a comment
abbrev pub is_separator : List ℕ → ℕ → Bool
is_separator blanks c = is_blank blanks c || c == hash

-- the line ends, or a separator stands next
abbrev pub IsSeparated : List ℕ → List ℕ → Type 0
IsSeparated blanks [] = Unit {0}
IsSeparated blanks (c ∷ cs) = is_separator blanks c ≡ true

-- A token without quotes, before the rest of its line: it has a byte and holds no separator, and one, or the
-- line's end, stands after it.
pub record IsPlain (quotes : Bool) (blanks bytes rest : List ℕ) : Type 0 where
  pub some : 0 < length bytes
  pub whole : list_all (λ c. not (is_separator blanks c)) bytes ≡ true
  pub unquoted : quotes ≡ true → slice_index bytes 0 ≢ quote
  pub ends : IsSeparated blanks rest

-- A token in quotes, before the rest of its line: it holds no quote, and its closing one may be missing at
-- the line's end alone.
pub record IsQuoted (quotes : Bool) (blanks bytes : List ℕ) (closed : Bool) (rest : List ℕ) : Type 0 where
  pub asked : quotes ≡ true
  pub opens : is_blank blanks quote ≡ false
  pub whole : list_all (λ c. not (c == quote)) bytes ≡ true
  pub ends : closed ≡ false → rest ≡ []

-- a token with quotes or without, as the first argument says
abbrev pub IsTokenAs : Bool → Bool → List ℕ → Lexeme → List ℕ → Type 0
IsTokenAs true quotes blanks t rest = IsQuoted quotes blanks t.bytes t.closed rest
IsTokenAs false quotes blanks t rest = (t.closed ≡ true) × IsPlain quotes blanks t.bytes rest

abbrev pub IsToken : Bool → List ℕ → Lexeme → List ℕ → Type 0
IsToken quotes blanks t rest = IsTokenAs t.quoted quotes blanks t rest

-- a token as it stands in a line, with the quotes that it has
abbrev pub shown : Lexeme → List ℕ
shown t = if t.quoted then quote ∷ (t.bytes ++ (if t.closed then quote ∷ [] else [])) else t.bytes

-- blanks alone stand before the token, and this rest after it
pub record StandsFirst (quotes : Bool) (blanks line : List ℕ) (t : Lexeme) (rest : List ℕ) : Type 0 where
  pub gap : List ℕ
  pub blank : list_all (is_blank blanks) gap ≡ true
  pub line_is : line ≡ gap ++ (shown t ++ rest)
  pub token : IsToken quotes blanks t rest

-- the line ends, or a comment is all that is left of it
abbrev pub IsComment : List ℕ → List ℕ → Type 0
IsComment blanks [] = Unit {0}
IsComment blanks (c ∷ cs) = (c ≡ hash) × (is_blank blanks c ≡ false)

-- blanks alone, and maybe a comment
pub record HoldsNone (blanks line : List ℕ) : Type 0 where
  pub gap : List ℕ
  pub rest : List ℕ
  pub blank : list_all (is_blank blanks) gap ≡ true
  pub line_is : line ≡ gap ++ rest
  pub comment : IsComment blanks rest

-- These are the tokens of a line, in order: all that stands between them, before them and after them, are
-- blanks and a comment.
abbrev pub AreTokens : Bool → List ℕ → List ℕ → List Lexeme → Type 0
AreTokens quotes blanks line [] = HoldsNone blanks line
AreTokens quotes blanks line (t ∷ ts) =
    (rest : List ℕ) × StandsFirst quotes blanks line t rest × AreTokens quotes blanks rest ts
