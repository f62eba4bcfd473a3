-- Exclusive sums of products: lists of cubes, and their value at a word.
use Rattle.std.specs.Prelude.{ℕ, ◌<◌, ◌≤◌, ◌==◌, Bool, not, List, [], ◌∷◌, length, if◌then◌else◌, bit_xor, All}
use Rattle.std.specs.List.{filter}
use Rattle.rv_pla.specs.Cube.{matches, IsCube}
use Rattle.rv_pla.specs.declared.cube.Cube.{Cube}
use Rattle.rv_pla.specs.declared.cube.TheConstants.{MOST_INPUTS, MOST_OUTPUTS}
use Rattle.rv_cube.specs.declared.list.TheConstants.{MOST_CUBES}

pub record Esop : Type 0 where
  pub inputs : ℕ
  pub outputs : ℕ
  pub cubes : List Cube

-- the outputs that a cube gives to a word
abbrev pub share : Cube → List Bool → ℕ
share cube word = if matches cube word then cube.outs else 0

-- the outputs that an odd number of matching cubes carry
unfoldable pub esop_value : List Cube → List Bool → ℕ
esop_value [] word = 0
esop_value (cube ∷ rest) word = bit_xor (share cube word) (esop_value rest word)

-- a cube that carries an output
pub record IsTerm (inputs outputs : ℕ) (cube : Cube) : Type 0 where
  pub is_cube : IsCube inputs outputs cube
  pub some : 0 < cube.outs

-- what every list keeps
pub record IsEsop (e : Esop) : Type 0 where
  pub some_inputs : 1 ≤ e.inputs
  pub few_inputs : e.inputs ≤ MOST_INPUTS
  pub some_outputs : 1 ≤ e.outputs
  pub few_outputs : e.outputs ≤ MOST_OUTPUTS
  pub bounded : length e.cubes ≤ MOST_CUBES
  pub valid : All (IsTerm e.inputs e.outputs) e.cubes

-- the cubes that carry an output, in their order
abbrev pub terms_of : List Cube → List Cube
terms_of cubes = filter (λ cube. not (cube.outs == 0)) cubes
