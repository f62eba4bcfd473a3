-- A token that was found in a line, by its place.
use Rattle.std.specs.Prelude.{◌≡◌, ℕ, ◌≤◌, ◌<◌, ◌+◌, ◌-◌, Bool, true, List, [], ◌∷◌, ◌&&◌, if◌then◌else◌, drop, slice_index, slice_range, Option, Some, None}
use Rattle.rv_text.specs.declared.found.Token.{Token}
use Rattle.rv_text.specs.Bytes.{quote}
use Rattle.rv_text.specs.Tokens.{Lexeme, is_blank, tokens_of}

-- the token at a place of a line
abbrev pub lexeme_at : List ℕ → Token → Lexeme
lexeme_at line t = record { bytes = slice_range line t.start t.end; quoted = t.quoted; closed = t.closed }

-- where a line goes on after a token: after its closing quote, where it has one
abbrev pub place_after : Token → ℕ
place_after t = if t.quoted && t.closed then t.end + 1 else t.end

-- a token lies in a line of this length, from a place on
pub record IsWithin (t : Token) (from len : ℕ) : Type 0 where
  pub start : from ≤ t.start
  pub order : t.start ≤ t.end
  pub end : t.end ≤ len
  pub goes_on : place_after t ≤ len
  pub moves : from < place_after t

-- where the first byte of a token stands, or its opening quote, where it has one
abbrev pub before : Token → ℕ
before t = if t.quoted then t.start - 1 else t.start

-- from a place on stand blanks alone, and then the token, after its opening quote where it has one
pub record FollowsBlanks (blanks line : List ℕ) (from : ℕ) (t : Token) : Type 0 where
  pub blank : (k : ℕ) → from ≤ k → k < before t → is_blank blanks (slice_index line k) ≡ true
  pub opening : t.quoted ≡ true → (from < t.start) × (slice_index line (before t) ≡ quote)

-- a token without quotes has a byte, and counts as closed
pub record IsUnquoted (t : Token) : Type 0 where
  pub some : t.start < t.end
  pub closed : t.closed ≡ true

-- the token that was found, and then those of the rest of the line
abbrev pub first_and_rest : Bool → List ℕ → List ℕ → Option Token → List Lexeme
first_and_rest quotes blanks line None = []
first_and_rest quotes blanks line (Some t) = lexeme_at line t ∷ tokens_of quotes blanks (drop (place_after t) line)
