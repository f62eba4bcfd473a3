-- What a reader keeps of the lines that it read.
use Rattle.std.specs.Prelude.{ℕ, ◌≤◌, Bool, false, List, [], length, All, IfSome, Option, None}
use Rattle.std.specs.Option.{unwrap_or}
use Rattle.rv_pla.specs.declared.cube.TheConstants.{MOST_INPUTS, MOST_OUTPUTS}
use Rattle.rv_pla.specs.declared.kind.Kind.{Kind}
use Rattle.rv_pla.specs.declared.pla.TheConstants.{MOST_TERMS}
use Rattle.rv_pla.specs.Pla.{Term}
use Rattle.rv_pla.specs.Cube.{IsCube}

pub record Given : Type 0 where
  pub inputs : Option ℕ
  pub outputs : Option ℕ
  pub kind : Option Kind
  pub terms : List Term
  -- the rest of the text is dropped
  pub is_ended : Bool

-- a text begins
abbrev pub nothing_given : Given
nothing_given = record { inputs = None; outputs = None; kind = None; terms = []; is_ended = false }

-- a size that was given
abbrev pub IsSize : ℕ → ℕ → Type 0
IsSize most n = (1 ≤ n) × (n ≤ most)

-- what every state keeps
pub record IsGiven (given : Given) : Type 0 where
  pub inputs_in : IfSome given.inputs (IsSize MOST_INPUTS)
  pub outputs_in : IfSome given.outputs (IsSize MOST_OUTPUTS)
  pub few_terms : length given.terms ≤ MOST_TERMS
  pub cubes : All (λ term. IsCube (unwrap_or given.inputs 0) (unwrap_or given.outputs 0) term.cube) given.terms
