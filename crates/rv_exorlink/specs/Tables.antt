-- Lists from tables of values.
use Rattle.std.specs.Prelude.{ℕ, ◌≡◌, ◌<◌, ◌≤◌, ◌+◌, ◌^◌, Bool, List, length, drop, slice_index, if◌then◌else◌, bit_xor, All}
use Rattle.rv_gate.specs.Word.{number_of}
use Rattle.rv_pla.specs.Cube.{IsCube, matches}
use Rattle.rv_pla.specs.declared.cube.Cube.{Cube}
use Rattle.rv_cube.specs.Esop.{esop_value, IsTerm}

-- the exclusive ors of the values of two tables
pub record AreSums (xs ys sums : List ℕ) : Type 0 where
  pub as_many : length sums ≡ length ys
  pub value : (k : ℕ) → k < length ys → slice_index sums k ≡ bit_xor (slice_index xs k) (slice_index ys k)

-- the value of a table at the inputs of a word from one on
abbrev pub value_from : List ℕ → ℕ → List Bool → ℕ
value_from values from word = slice_index values (number_of (drop from word))

-- cubes have come in that have the table's value where the prefix matches
pub record Fills (n : ℕ) (prefix : Cube) (from : ℕ) (values : List ℕ) (old new : List Cube) : Type 0 where
  pub value : (word : List Bool) → length word ≡ n
      → esop_value new word
      ≡ bit_xor (if matches prefix word then value_from values from word else 0) (esop_value old word)
  pub terms : (outputs : ℕ) → IsCube n outputs prefix → All (λ x. x < 2 ^ outputs) values → All (IsTerm n outputs) old
      → All (IsTerm n outputs) new
  pub few : length new ≤ length old + length values
