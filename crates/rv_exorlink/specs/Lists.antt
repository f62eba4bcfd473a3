-- What a list keeps while cubes come in and go out.
use Rattle.std.specs.Prelude.{ℕ, ◌≡◌, ◌<◌, Bool, false, List, length, slice_index, bit_xor, All}
use Rattle.rv_gate.specs.Word.{has, number_of}
use Rattle.rv_pla.specs.Cube.{IsCube}
use Rattle.rv_pla.specs.declared.cube.Cube.{Cube}
use Rattle.rv_cube.specs.Esop.{share, esop_value, IsTerm}

-- the value of a cube and a list together
abbrev pub value_with : Cube → List Cube → List Bool → ℕ
value_with cube cubes word = bit_xor (share cube word) (esop_value cubes word)

-- a cube beside a list, and another beside another list, have one value together
pub record AreAlike (n : ℕ) (cube : Cube) (old : List Cube) (other : Cube) (new : List Cube) : Type 0 where
  pub value : (word : List Bool) → length word ≡ n → value_with other new word ≡ value_with cube old word
  pub is_cube : (outputs : ℕ) → IsCube n outputs cube → All (IsTerm n outputs) old → IsCube n outputs other
  pub terms : (outputs : ℕ) → IsCube n outputs cube → All (IsTerm n outputs) old → All (IsTerm n outputs) new

-- a cube of the list and another one become one
pub record Joins (n : ℕ) (cube : Cube) (old : List Cube) (sum : Cube) (new : List Cube) : Type 0 where
  pub alike : AreAlike n cube old sum new
  pub shorter : length new < length old

-- a cube has come in
pub record Adds (n : ℕ) (cube : Cube) (old new : List Cube) : Type 0 where
  pub value : (word : List Bool) → length word ≡ n → esop_value new word ≡ value_with cube old word
  pub terms : (outputs : ℕ) → IsCube n outputs cube → All (IsTerm n outputs) old → All (IsTerm n outputs) new

-- ---- but for free entries

-- two sets agree at the outputs that aren't free at a word, by a table of those that are
abbrev pub Agree : List ℕ → List Bool → ℕ → ℕ → Type 0
Agree free word a b =
    (output : ℕ) → has (slice_index free (number_of word)) output ≡ false → has a output ≡ has b output

-- a cube has come in
pub record AddsBut (n : ℕ) (free : List ℕ) (cube : Cube) (old new : List Cube) : Type 0 where
  pub value : (word : List Bool) → length word ≡ n → Agree free word (esop_value new word) (value_with cube old word)
  pub terms : (outputs : ℕ) → IsCube n outputs cube → All (IsTerm n outputs) old → All (IsTerm n outputs) new

-- on a way from one cube to another, at a third one, the sums of the steps so far have come in
pub record Walks (n : ℕ) (free : List ℕ) (from to : Cube) (old : List Cube) (at : Cube) (new : List Cube) : Type 0 where
  pub value : (word : List Bool) → length word ≡ n → Agree free word (value_with at new word) (value_with from old word)
  pub is_cube : (outputs : ℕ) → IsCube n outputs from → IsCube n outputs to → IsCube n outputs at
  pub terms : (outputs : ℕ) → IsCube n outputs from → IsCube n outputs to → All (IsTerm n outputs) old
      → All (IsTerm n outputs) new

-- two cubes have come in
pub record AddsBoth (n : ℕ) (free : List ℕ) (x y : Cube) (old new : List Cube) : Type 0 where
  pub value : (word : List Bool) → length word ≡ n
      → Agree free word (esop_value new word) (bit_xor (share x word) (value_with y old word))
  pub terms : (outputs : ℕ) → IsCube n outputs x → IsCube n outputs y → All (IsTerm n outputs) old
      → All (IsTerm n outputs) new

-- the value at each word is the same but for free entries, and cubes stay cubes
pub record IsSameBut (n : ℕ) (free : List ℕ) (old new : List Cube) : Type 0 where
  pub value : (word : List Bool) → length word ≡ n → Agree free word (esop_value new word) (esop_value old word)
  pub terms : (outputs : ℕ) → All (IsTerm n outputs) old → All (IsTerm n outputs) new
