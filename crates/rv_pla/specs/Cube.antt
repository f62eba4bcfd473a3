-- Cubes, and the words that they match.
use Rattle.std.specs.Prelude.{ℕ, ◌^◌, ◌<◌, Bool, true, false, not, List, length}
use Rattle.rv_gate.specs.Word.{has, bit_of}
use Rattle.rv_gate.specs.Gate.{all_below, WantsControls}
use Rattle.rv_pla.specs.declared.cube.Cube.{Cube}

-- what a cube says of one input
pub data Symbol : Type 0 where
  One : Symbol
  Zero : Symbol
  Dash : Symbol

-- the symbol of an input, from whether it is in `care` and in `want`
abbrev pub symbol_of : Bool → Bool → Symbol
symbol_of false want = Dash
symbol_of true false = Zero
symbol_of true true = One

abbrev pub symbol : Cube → ℕ → Symbol
symbol cube input = symbol_of (has cube.care input) (has cube.want input)

abbrev pub agrees : Symbol → Bool → Bool
agrees One bit = bit
agrees Zero bit = not bit
agrees Dash bit = true

-- each input of the word agrees with the cube
unfoldable pub matches : Cube → List Bool → Bool
matches cube word = all_below (λ input. agrees (symbol cube input) (bit_of word input)) (length word)

-- a cube of so many inputs and outputs
pub record IsCube (inputs outputs : ℕ) (cube : Cube) : Type 0 where
  pub asked : cube.care < 2 ^ inputs
  pub wanted : WantsControls cube.care cube.want
  pub carried : cube.outs < 2 ^ outputs
