-- The positive-polarity Reed-Muller form of a table of values.
use Rattle.std.specs.Prelude.{ℕ, ◌^◌, Bool, true, not, ◌&&◌, ◌||◌, List, [], ◌∷◌, if◌then◌else◌, bit_xor, slice_index, map}
use Rattle.std.specs.List.{fold, range_with_len}
use Rattle.rv_gate.specs.Word.{ones_of, word_of}
use Rattle.rv_pla.specs.declared.cube.Cube.{Cube}
use Rattle.rv_cube.specs.Esop.{terms_of}

-- a word is within a set of inputs, which is a word with 1 for a member: it has no other 1
unfoldable pub is_within : List Bool → List Bool → Bool
is_within [] set = true
is_within (a ∷ word) [] = not a && is_within word []
is_within (a ∷ word) (b ∷ set) = (not a || b) && is_within word set

-- the value at the word with the number x, where the word is within the set
abbrev pub value_within : ℕ → List ℕ → List Bool → ℕ → ℕ
value_within n table set x = if is_within (word_of n x) set then slice_index table x else 0

-- the outputs of a set of inputs: the exclusive or of the values at all words within it
abbrev pub outputs_within : ℕ → List ℕ → List Bool → ℕ
outputs_within n table set = fold bit_xor 0 (map (value_within n table set) (range_with_len 0 (2 ^ n)))

-- the cube of a set of inputs asks for a 1 at each
abbrev pub set_cube : List Bool → ℕ → Cube
set_cube set outs = record { care = ones_of set; want = ones_of set; outs = outs }

-- a cube for each set that some output needs, in ascending order
abbrev pub reed_muller : ℕ → List ℕ → List Cube
reed_muller n table =
    terms_of (map (λ s. set_cube (word_of n s) (outputs_within n table (word_of n s))) (range_with_len 0 (2 ^ n)))
