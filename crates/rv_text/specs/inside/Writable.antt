-- Words and tokens that read back as they were written.
use Rattle.std.specs.Prelude.{◌≡◌, ℕ, ◌<◌, Bool, true, false, not, List, [], ◌∷◌, length, ◌==◌, ◌||◌}
use Rattle.std.specs.List.{list_all}
use Rattle.rv_text.specs.Bytes.{line_feed, quote, hash}
use Rattle.rv_text.specs.Tokens.{Lexeme, is_blank}
use Rattle.rv_text.specs.Spelled.{IsOneLine}

abbrev pub AreOneLine : List (List ℕ) → Type 0
AreOneLine [] = Unit {0}
AreOneLine (w ∷ ws) = IsOneLine w × AreOneLine ws

abbrev pub AreLines : List (List (List ℕ)) → Type 0
AreLines [] = Unit {0}
AreLines (ws ∷ lines) = AreOneLine ws × AreLines lines

-- a byte that may stand in a word without quotes
abbrev pub is_word_byte : List ℕ → ℕ → Bool
is_word_byte blanks c = not (is_blank blanks c || c == hash || c == quote || c == line_feed)

-- a word that needs no quotes
abbrev pub IsPlainWord : List ℕ → List ℕ → Type 0
IsPlainWord blanks w = (0 < length w) × (list_all (is_word_byte blanks) w ≡ true)

abbrev pub ArePlainWords : List ℕ → List (List ℕ) → Type 0
ArePlainWords blanks [] = Unit {0}
ArePlainWords blanks (w ∷ ws) = IsPlainWord blanks w × ArePlainWords blanks ws

-- a byte that may stand in quotes
abbrev pub is_quotable : ℕ → Bool
is_quotable c = not (c == quote || c == line_feed)

-- bytes that can be written in quotes, or without
abbrev pub CanStand : Bool → List ℕ → Type 0
CanStand true bytes = list_all is_quotable bytes ≡ true
CanStand false bytes = IsPlainWord [] bytes

-- a token that can be written
abbrev pub IsWritable : Lexeme → Type 0
IsWritable t = (t.closed ≡ true) × CanStand t.quoted t.bytes

abbrev pub AreWritable : List Lexeme → Type 0
AreWritable [] = Unit {0}
AreWritable (t ∷ ts) = IsWritable t × AreWritable ts
