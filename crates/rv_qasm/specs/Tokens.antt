-- The tokens of an OpenQASM 2.0 text. Blanks are space, tab, carriage return and line feed,
-- and `//` begins a comment to the end of its line.
use Rattle.std.specs.Prelude.{ℕ, zero, suc, ◌+◌, ◌-◌, Bool, List, [], ◌∷◌, take, drop, ◌==◌, ◌||◌, ◌&&◌, not, if◌then◌else◌, length, slice_index}
use Rattle.std.specs.Char.{is_ascii_alphabetic, is_ascii_digit}
use Rattle.std.specs.List.{prefix_len, position_or_len}
use Rattle.rv_text.specs.Bytes.{line_feed, quote, dot}
use Rattle.rv_text.specs.Lines.{first_end}
use Rattle.rv_text.specs.Tokens.{is_blank}

-- a token, with the number of its line, counted from 1
pub record TokenOnLine : Type 0 where
  pub bytes : List ℕ
  pub line : ℕ

-- ---- what bytes begin with

-- `_`
abbrev pub underscore : ℕ
underscore = 95

-- `-`
abbrev pub minus : ℕ
minus = 45

-- `>`
abbrev pub greater : ℕ
greater = 62

-- `/`
abbrev pub slash : ℕ
slash = 47

abbrev pub begins_name : ℕ → Bool
begins_name c = is_ascii_alphabetic c || c == underscore

abbrev pub is_in_name : ℕ → Bool
is_in_name c = begins_name c || is_ascii_digit c

-- digits, or digits, a dot and digits
abbrev pub number_length : List ℕ → ℕ
number_length bytes =
    let whole = prefix_len is_ascii_digit bytes in
    let rest = drop whole bytes in
    if slice_index rest 0 == dot && is_ascii_digit (slice_index rest 1)
    then whole + 1 + prefix_len is_ascii_digit (drop 1 rest)
    else whole

-- after its opening quote: to the next one, or to the end of the line
abbrev pub string_length : List ℕ → ℕ
string_length bytes =
    let inside = position_or_len (λ c. c == quote || c == line_feed) bytes in
    if slice_index (drop inside bytes) 0 == quote then inside + 1 else inside

-- the length of the first token of bytes that begin with neither a blank nor a comment: a name, a number,
-- a string, `->`, or any other byte
abbrev pub token_length : ℕ → List ℕ → ℕ
token_length c bytes =
    if begins_name c then 1 + prefix_len is_in_name bytes
    else (if is_ascii_digit c then number_length (c ∷ bytes)
    else (if c == quote then 1 + string_length bytes
    else (if c == minus && slice_index bytes 0 == greater then 2
    else 1)))

abbrev pub begins_comment : ℕ → List ℕ → Bool
begins_comment c bytes = c == slash && slice_index bytes 0 == slash

-- ---- all tokens

abbrev pub line_after : ℕ → ℕ → ℕ
line_after line c = if c == line_feed then line + 1 else line

-- the tokens of bytes from a line on, after so many bytes that belong to what began before
unfoldable pub tokens_after : ℕ → ℕ → List ℕ → List TokenOnLine
tokens_after skipped line [] = []
tokens_after (suc skipped) line (c ∷ bytes) = tokens_after skipped (line_after line c) bytes
tokens_after zero line (c ∷ bytes) =
    if is_blank (line_feed ∷ []) c then tokens_after 0 (line_after line c) bytes
    else (if begins_comment c bytes then tokens_after (first_end bytes) line bytes
    else record { bytes = take (token_length c bytes) (c ∷ bytes); line = line }
    ∷ tokens_after (token_length c bytes - 1) line bytes)

unfoldable pub qasm_tokens : List ℕ → List TokenOnLine
qasm_tokens text = tokens_after 0 1 text

-- ---- kinds of tokens

abbrev pub is_identifier : List ℕ → Bool
is_identifier token = begins_name (slice_index token 0)

abbrev pub is_number : List ℕ → Bool
is_number token = is_ascii_digit (slice_index token 0)

abbrev pub is_string : List ℕ → Bool
is_string token = slice_index token 0 == quote

-- a string without its closing quote
abbrev pub is_open_string : List ℕ → Bool
is_open_string token = is_string token && (length token == 1 || not (slice_index token (length token - 1) == quote))
