-- The lines of a BLIF text, and their words.
use Rattle.std.specs.Prelude.{ℕ, ◌-◌, Bool, not, false, List, [], ◌∷◌, ◌++◌, length, take, ◌==◌, ◌||◌, ◌&&◌, if◌then◌else◌, nat_lt, slice_index, codes}
use Rattle.std.specs.List.{list_any}
use Rattle.std.specs.Str.{bytes_eq}
use Rattle.rv_text.specs.Bytes.{carriage_return, hash, space}
use Rattle.rv_text.specs.Tokens.{Lexeme, tokens_of}

-- blanks part words, and `#` begins a comment
abbrev pub words_of : List ℕ → List Lexeme
words_of line = tokens_of false [] line

-- the length of a line without a carriage return that ends it
abbrev pub body_len : List ℕ → ℕ
body_len line = if slice_index line (length line - 1) == carriage_return then length line - 1 else length line

-- a line that ends with `\`, and has no comment, goes on in the next one
unfoldable pub goes_on : List ℕ → Bool
goes_on line = slice_index line (body_len line - 1) == 92 && not (list_any (λ b. b == hash) line)

-- what it has before the `\`
abbrev pub before_next : List ℕ → List ℕ
before_next line = take (body_len line - 1) line ++ space ∷ []

-- a word that ends with `\`, behind which the line does not go on
abbrev pub is_cut : List ℕ → Bool
is_cut word = nat_lt 0 (length word) && slice_index word (length word - 1) == 92

abbrev pub is_any_cut : List Lexeme → Bool
is_any_cut words = list_any (λ word. is_cut word.bytes) words

-- remarks of Yosys, which say nothing of the function
unfoldable pub is_dropped : List ℕ → Bool
is_dropped name =
    bytes_eq name (codes ".attr") || bytes_eq name (codes ".attrib") || bytes_eq name (codes ".param")
    || bytes_eq name (codes ".cname")

unfoldable pub is_latch : List ℕ → Bool
is_latch name = bytes_eq name (codes ".latch") || bytes_eq name (codes ".mlatch")

-- models in models, gates of a library, and external don't cares
unfoldable pub is_unsupported : List ℕ → Bool
is_unsupported name =
    bytes_eq name (codes ".subckt") || bytes_eq name (codes ".gate") || bytes_eq name (codes ".search")
    || bytes_eq name (codes ".exdc")
