-- The term of a row, and of a line that is its two parts with a space between them.
use Rattle.std.specs.Prelude.{◌≡◌, ℕ, ◌+◌, false, true, List, ◌++◌, length, take, drop, slice_index, Option, Some, None}
use Rattle.rv_pla.specs.Pla.{Term}
use Rattle.rv_pla.specs.Row.{is_row, term_of}

-- the term of a row, if it is one
abbrev pub IsTermOf : ℕ → ℕ → List ℕ → Option Term → Type 0
IsTermOf inputs number row None = is_row inputs row ≡ false
IsTermOf inputs number row (Some term) = (is_row inputs row ≡ true) × (term ≡ term_of inputs number row)

abbrev pub parts : ℕ → List ℕ → List ℕ
parts inputs line = take inputs line ++ drop (inputs + 1) line

-- a line is an input part, a space and an output part
pub record IsWritten (inputs outputs number : ℕ) (line : List ℕ) (term : Term) : Type 0 where
  pub size : length line ≡ inputs + 1 + outputs
  pub space : slice_index line inputs ≡ 32
  pub row : is_row inputs (parts inputs line) ≡ true
  pub is : term ≡ term_of inputs number (parts inputs line)
