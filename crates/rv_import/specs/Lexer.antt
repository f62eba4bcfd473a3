-- The tokens of an OpenQASM text, as it is cut into blanks, comments and tokens, each as long as it can be.
use Rattle.std.specs.Prelude.{ℕ, zero, suc, ◌+◌, ◌-◌, Bool, not, ◌==◌, ◌||◌, ◌&&◌, List, [], ◌∷◌, ◌++◌, slice_index, take, map, if◌then◌else◌}
use Rattle.std.specs.Char.{is_ascii_digit}
use Rattle.rv_text.specs.Bytes.{line_feed, quote}
use Rattle.rv_text.specs.Lines.{first_end}
use Rattle.rv_text.specs.Tokens.{is_blank}
use Rattle.rv_qasm.specs.Tokens.{begins_comment, greater, is_in_name, minus, qasm_tokens, string_length, token_length, TokenOnLine}
use Rattle.rv_import.specs.declared.lexer.Run.{Run}
use Rattle.rv_import.specs.declared.lexer.Run.TheVariants.{Name, Digits, Quoted, Line}

-- whether a byte belongs to a run of this kind
abbrev pub is_in : Run → ℕ → Bool
is_in Name c = is_in_name c
is_in Digits c = is_ascii_digit c
is_in Quoted c = not (c == quote || c == line_feed)
is_in Line c = not (c == line_feed)

-- a string, an arrow or one other byte
abbrev pub mark_length : ℕ → List ℕ → ℕ
mark_length c bytes =
    if c == quote then 1 + string_length bytes
    else (if c == minus && slice_index bytes 0 == greater then 2
    else 1)

-- whether bytes begin with a blank or a comment
abbrev pub is_passed_over : ℕ → List ℕ → Bool
is_passed_over c bytes = is_blank (line_feed ∷ []) c || begins_comment c bytes

-- how long the blank, the comment or the token is with which bytes begin
abbrev pub piece_length : ℕ → List ℕ → ℕ
piece_length c bytes =
    if is_blank (line_feed ∷ []) c then 1
    else (if begins_comment c bytes then 1 + first_end bytes
    else token_length c bytes)

-- the token that a piece is
abbrev pub token_in : Bool → List ℕ → List (List ℕ)
token_in is_passed_over bytes = if is_passed_over then [] else bytes ∷ []

-- the tokens of bytes after so many that belong to what began before
unfoldable pub tokens_after : ℕ → List ℕ → List (List ℕ)
tokens_after skipped [] = []
tokens_after (suc skipped) (c ∷ bytes) = tokens_after skipped bytes
tokens_after zero (c ∷ bytes) =
    token_in (is_passed_over c bytes) (take (piece_length c bytes) (c ∷ bytes))
    ++ tokens_after (piece_length c bytes - 1) bytes

-- the tokens of an OpenQASM text, without their lines
unfoldable pub tokens_of : List ℕ → List (List ℕ)
tokens_of text = map (λ (token : TokenOnLine). token.bytes) (qasm_tokens text)
