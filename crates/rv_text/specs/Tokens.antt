-- The tokens of a line. Blanks part them, and a `#` outside quotes begins a comment to the end of the line. A token is
-- a longest run of other bytes; where quotes are meant, one that begins with `"` reaches to the next `"`,
-- or to the end of the line.
use Rattle.std.specs.Prelude.{ℕ, Bool, true, false, List, [], ◌∷◌, ◌++◌, ◌==◌, ◌||◌, ◌&&◌, if◌then◌else◌}
use Rattle.std.specs.List.{flat_map, list_any}
use Rattle.rv_text.specs.Bytes.{carriage_return, tab, space, quote, hash}

-- a token, by its bytes without the quotes
pub record Lexeme : Type 0 where
  pub bytes : List ℕ
  pub quoted : Bool
  -- whether the closing quote is there
  pub closed : Bool

-- a token without quotes
abbrev pub plain : List ℕ → Lexeme
plain bytes = record { bytes = bytes; quoted = false; closed = true }

-- a token in quotes
abbrev pub in_quotes : List ℕ → Bool → Lexeme
in_quotes bytes closed = record { bytes = bytes; quoted = true; closed = closed }

-- a space, a tab, a carriage return, or one of the bytes that are blanks too
abbrev pub is_blank : List ℕ → ℕ → Bool
is_blank blanks c = c == space || c == tab || c == carriage_return || list_any (λ b. b == c) blanks

-- what stands before a byte of a line: no open token, or these bytes of one without or in quotes
pub data Open : Type 0 where
  between : Open
  inside : List ℕ → Open
  quoting : List ℕ → Open

-- the tokens of bytes after what is open
abbrev pub tokens_from : Bool → List ℕ → Open → List ℕ → List Lexeme
tokens_from quotes blanks between [] = []
tokens_from quotes blanks between (c ∷ cs) =
    if is_blank blanks c then tokens_from quotes blanks between cs
    else (if c == hash then []
    else (if quotes && c == quote then tokens_from quotes blanks (quoting []) cs
    else tokens_from quotes blanks (inside (c ∷ [])) cs))
tokens_from quotes blanks (inside bytes) [] = plain bytes ∷ []
tokens_from quotes blanks (inside bytes) (c ∷ cs) =
    if is_blank blanks c then plain bytes ∷ tokens_from quotes blanks between cs
    else (if c == hash then plain bytes ∷ []
    else tokens_from quotes blanks (inside (bytes ++ c ∷ [])) cs)
tokens_from quotes blanks (quoting bytes) [] = in_quotes bytes false ∷ []
tokens_from quotes blanks (quoting bytes) (c ∷ cs) =
    if c == quote then in_quotes bytes true ∷ tokens_from quotes blanks between cs
    else tokens_from quotes blanks (quoting (bytes ++ c ∷ [])) cs

-- the tokens of a line
abbrev pub tokens_of : Bool → List ℕ → List ℕ → List Lexeme
tokens_of quotes blanks line = tokens_from quotes blanks between line

-- the bytes of tokens, one after another
abbrev pub joined : List Lexeme → List ℕ
joined tokens = flat_map (λ token. token.bytes) tokens
