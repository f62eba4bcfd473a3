-- The statements of a text, by the tokens that they make again.
use Rattle.std.specs.Prelude.{◌≡◌, Bool, true, not, List, [], ◌∷◌, ◌++◌, codes, bytes_eq}
use Rattle.std.specs.List.{list_all}
use Rattle.rv_qasm.specs.Tokens.{TokenOnLine}
use Rattle.rv_qasm.specs.Statements.{Statement, statement_of}

abbrev pub is_semicolon : TokenOnLine → Bool
is_semicolon token = bytes_eq token.bytes (codes ";")

abbrev pub HoldsNoEnd : List TokenOnLine → Type 0
HoldsNoEnd tokens = list_all (λ token. not (is_semicolon token)) tokens ≡ true

-- a statement is what stands before the first `;`, and this rest stands after it
pub record IsFirstStatement (tokens : List TokenOnLine) (statement : Statement) (rest : List TokenOnLine) : Type 0 where
  pub front : List TokenOnLine
  pub end : TokenOnLine
  pub tokens_are : tokens ≡ front ++ end ∷ rest
  pub front_is : HoldsNoEnd front
  pub end_is : is_semicolon end ≡ true
  pub statement_is : statement ≡ statement_of front end.line

-- tokens are cut into the statements that `;` ends, and those that are left
abbrev pub AreCut : List TokenOnLine → List Statement → List TokenOnLine → Type 0
AreCut tokens [] left = (left ≡ tokens) × HoldsNoEnd tokens
AreCut tokens (statement ∷ statements) left =
    (rest : List TokenOnLine) × IsFirstStatement tokens statement rest × AreCut rest statements left
