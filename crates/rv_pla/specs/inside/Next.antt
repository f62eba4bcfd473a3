-- A line that adds a term.
use Rattle.std.specs.Prelude.{◌≡◌, ℕ, List, [], ◌∷◌, ◌++◌, Ok}
use Rattle.rv_pla.specs.Line.{words_of}
use Rattle.rv_pla.specs.Pla.{Term}
use Rattle.rv_pla.specs.inside.State.{Given, IsGiven}
use Rattle.rv_pla.specs.inside.Steps.{line_by}

abbrev pub with_next : Given → Term → Given
with_next given term = record given { terms = given.terms ++ term ∷ [] }

pub record IsNext (given : Given) (number : ℕ) (line : List ℕ) (term : Term) : Type 0 where
  pub gives : line_by given number (words_of line) ≡ Ok (with_next given term)
  pub kept : IsGiven (with_next given term)
