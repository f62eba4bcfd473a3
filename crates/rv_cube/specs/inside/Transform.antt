-- The Reed-Muller form of a table by the fast transform.
use Rattle.std.specs.Prelude.{ℕ, zero, suc, ◌+◌, ◌^◌, List, [], ◌∷◌, ◌++◌, bit_xor, slice_index, take, drop, map}
use Rattle.std.specs.List.{range_with_len}
use Rattle.rv_gate.specs.Word.{word_of}
use Rattle.rv_pla.specs.declared.cube.Cube.{Cube}
use Rattle.rv_cube.specs.ReedMuller.{set_cube}

-- the exclusive or of the values of f at m numbers from k on
unfoldable pub xor_of : (ℕ → ℕ) → ℕ → ℕ → ℕ
xor_of f k zero = 0
xor_of f k (suc m) = bit_xor (f k) (xor_of f (k + 1) m)

unfoldable pub xor_each : List ℕ → List ℕ → List ℕ
xor_each [] others = others
xor_each (x ∷ xs) [] = x ∷ xs
xor_each (x ∷ xs) (y ∷ ys) = bit_xor x y ∷ xor_each xs ys

-- the outputs of each set of inputs, the set read as a word: those of the half without the first input, and
-- those of the half with it, which has what the first half leaves
unfoldable pub transformed : ℕ → List ℕ → List ℕ
transformed zero table = table
transformed (suc n) table =
    transformed n (take (2 ^ n) table) ++ transformed n (xor_each (take (2 ^ n) table) (drop (2 ^ n) table))

-- the cubes of the first m sets, with these outputs
abbrev pub set_cubes : ℕ → List ℕ → ℕ → List Cube
set_cubes n outs m = map (λ s. set_cube (word_of n s) (slice_index outs s)) (range_with_len 0 m)
