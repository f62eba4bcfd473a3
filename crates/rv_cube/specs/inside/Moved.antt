-- A cube that changes as two others differ.
use Rattle.std.specs.Prelude.{ℕ, ◌≡◌, ◌<◌, ◌⊎◌, List, length, bit_xor, slice_index}
use Rattle.rv_pla.specs.declared.cube.Cube.{Cube}
use Rattle.rv_pla.specs.Cube.{symbol}
use Rattle.rv_pla.specs.declared.cube.TheConstants.{MOST_INPUTS}
use Rattle.rv_cube.specs.Distance.{with_symbol, with_third}
use Rattle.rv_cube.specs.declared.distance.Turns.{Turns}
use Rattle.rv_cube.specs.declared.distance.Turns.TheVariants.{Once, Twice}
use Rattle.rv_cube.specs.declared.filter.TheConstants.{PLACES}
use Rattle.rv_cube.specs.declared.slots.Row.{Row}
use Rattle.rv_cube.specs.inside.Slots.{key_of}
use Rattle.rv_cube.specs.inside.Filter.{filter_place}
use Rattle.rv_cube.specs.inside.Slotted.{turn, IsAlike}

-- the cube with the inputs changed in which the others differ
abbrev pub moved_as : Cube → Cube → Cube → Cube
moved_as cube from to =
    record cube {
      care = bit_xor (bit_xor cube.care from.care) to.care;
      want = bit_xor (bit_xor cube.want from.want) to.want;
    }

-- the slot has the inputs of the cube, changed as `from` differs from `one` or from `other`
abbrev pub IsMovedEither : List Cube → Cube → Cube → Cube → Cube → ℕ → Type 0
IsMovedEither slots cube from one other b =
    IsAlike slots (moved_as cube from one) b ⊎ IsAlike slots (moved_as cube from other) b

-- the cube with its symbol at an input turned so often
abbrev pub turned_by : Cube → ℕ → Turns → Cube
turned_by cube input Once = with_symbol cube input (turn (symbol cube input))
turned_by cube input Twice = with_third cube (with_symbol cube input (turn (symbol cube input))) input

-- the places of the inputs of the cubes with the symbol at each of n inputs turned so often
pub record ArePlaces (n : ℕ) (cube : Cube) (turns : Turns) (places : List ℕ) : Type 0 where
  pub len : length places ≡ MOST_INPUTS
  pub is : (i : ℕ) → i < n → slice_index places i ≡ filter_place (key_of (turned_by cube i turns))
  pub within : (i : ℕ) → i < n → slice_index places i < PLACES

-- how the places of a cube's inputs and of another's differ
pub record IsStep (cube to : Cube) (step : ℕ) : Type 0 where
  pub is : step ≡ bit_xor (filter_place (key_of cube)) (filter_place (key_of to))
  pub within : step < PLACES

pub record IsRow (row : Row) : Type 0 where
  pub within : row.q < MOST_INPUTS
  pub one : IsStep row.cube (turned_by row.cube row.q Once) row.one_step
  pub other : IsStep row.cube (turned_by row.cube row.q Twice) row.other_step
