-- Inputs made of inputs.
use Rattle.std.specs.Prelude.{ℕ, ◌≡◌, ◌≢◌, ◌<◌, ◌^◌, Bool, List, length}
use Rattle.rv_gate.specs.Gate.{act}
use Rattle.rv_gate.specs.declared.gate.Shape.{Shape}
use Rattle.rv_gate.specs.declared.gate.Shape.TheVariants.{Flip}
use Rattle.rv_cube.specs.Esop.{Esop, esop_value}

-- the line `to` is changed where `from` has a 1
abbrev pub bend : ℕ → ℕ → Shape
bend from to = Flip (2 ^ from) (2 ^ from) to

-- a list gives to a word so bent what another gives to the word
abbrev pub GivesBent : ℕ → ℕ → Esop → Esop → Type 0
GivesBent from to old new =
    (word : List Bool) → length word ≡ old.inputs
    → esop_value new.cubes (act (bend from to) word) ≡ esop_value old.cubes word

-- such a list on as many inputs and outputs
pub record IsBend (old : Esop) (from to : ℕ) (new : Esop) : Type 0 where
  pub from_below : from < old.inputs
  pub to_below : to < old.inputs
  pub apart : from ≢ to
  pub inputs : new.inputs ≡ old.inputs
  pub outputs : new.outputs ≡ old.outputs
  pub value : GivesBent from to old new
