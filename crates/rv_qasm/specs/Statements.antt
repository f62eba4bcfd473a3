-- The statements of an OpenQASM text: the tokens up to each `;`, and those after the last one.
use Rattle.std.specs.Prelude.{ℕ, List, [], ◌∷◌, ◌++◌, map, if◌then◌else◌, codes, bytes_eq}
use Rattle.rv_qasm.specs.Tokens.{TokenOnLine, qasm_tokens}

-- Its tokens without the `;`, and the line of its first token, or of its `;` if there is no other.
pub record Statement : Type 0 where
  pub tokens : List (List ℕ)
  pub line : ℕ

abbrev pub statement_line : List TokenOnLine → ℕ → ℕ
statement_line [] line = line
statement_line (token ∷ tokens) line = token.line

-- tokens that end on a line
abbrev pub statement_of : List TokenOnLine → ℕ → Statement
statement_of tokens line = record { tokens = map (λ token. token.bytes) tokens; line = statement_line tokens line }

-- the statements that `;` ends, after tokens of a statement that was begun
unfoldable pub ended_statements : List TokenOnLine → List TokenOnLine → List Statement
ended_statements begun [] = []
ended_statements begun (token ∷ tokens) =
    if bytes_eq token.bytes (codes ";") then statement_of begun token.line ∷ ended_statements [] tokens
    else ended_statements (begun ++ token ∷ []) tokens

-- the tokens after the last `;`, after those of a statement that was begun
unfoldable pub unended_tokens : List TokenOnLine → List TokenOnLine → List TokenOnLine
unended_tokens begun [] = begun
unended_tokens begun (token ∷ tokens) =
    if bytes_eq token.bytes (codes ";") then unended_tokens [] tokens
    else unended_tokens (begun ++ token ∷ []) tokens

abbrev pub statements_of : List ℕ → List Statement
statements_of text = ended_statements [] (qasm_tokens text)

-- the last statement, if it lacks its `;`
abbrev pub unended_in : List TokenOnLine → List Statement
unended_in [] = []
unended_in (token ∷ tokens) = statement_of (token ∷ tokens) token.line ∷ []

abbrev pub unended_of : List ℕ → List Statement
unended_of text = unended_in (unended_tokens [] (qasm_tokens text))
