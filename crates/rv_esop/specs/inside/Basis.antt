-- Outputs made of outputs.
use Rattle.std.specs.Prelude.{ℕ, ◌≡◌, ◌≤◌, ◌^◌, Bool, List, length, map, if◌then◌else◌, bit_xor, All}
use Rattle.rv_gate.specs.Word.{has}
use Rattle.rv_pla.specs.declared.cube.Cube.{Cube}
use Rattle.rv_cube.specs.Esop.{esop_value, IsTerm}
use Rattle.rv_cube.specs.declared.list.TheConstants.{MOST_CUBES}

-- a set in which the output `to` is changed if it has the output `from`
abbrev pub linked : ℕ → ℕ → ℕ → ℕ
linked from to set = bit_xor set (if has set from then 2 ^ to else 0)

abbrev pub linked_cube : ℕ → ℕ → Cube → Cube
linked_cube from to cube = record cube { outs = linked from to cube.outs }

abbrev pub AreLinked : ℕ → ℕ → List Cube → List Cube → Type 0
AreLinked from to old new = new ≡ map (linked_cube from to) old

-- cubes give the same, but that the output `to` has that of `from` besides
pub record IsTurned (inputs outputs from to : ℕ) (old new : List Cube) : Type 0 where
  pub value : (word : List Bool) → length word ≡ inputs → linked from to (esop_value new word) ≡ esop_value old word
  pub terms : All (IsTerm inputs outputs) new
  pub few : length new ≤ MOST_CUBES
