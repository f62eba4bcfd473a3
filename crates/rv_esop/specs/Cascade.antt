-- The cascade of a list of cubes.
use Rattle.std.specs.Prelude.{ℕ, ◌+◌, Bool, true, false, List, [], ◌∷◌, ◌++◌, length, map, replicate}
use Rattle.std.specs.List.{filter, range_with_len}
use Rattle.rv_gate.specs.Word.{has}
use Rattle.rv_gate.specs.Gate.{xor}
use Rattle.rv_gate.specs.Names.{numbered}
use Rattle.rv_gate.specs.Circuit.{Cascade, fresh}
use Rattle.rv_gate.specs.declared.circuit.Mark.TheVariants.{Input, Zero}
use Rattle.rv_gate.specs.declared.gate.Shape.{Shape}
use Rattle.rv_pla.specs.declared.cube.Cube.{Cube}
use Rattle.rv_cube.specs.Esop.{Esop}
use Rattle.rv_cube.specs.Flip.{flip_of}

-- a flip for each output of a cube, in ascending order
abbrev pub flips_of_cube : ℕ → ℕ → Cube → List Shape
flips_of_cube inputs outputs cube =
    map (λ output. flip_of cube (inputs + output)) (filter (has cube.outs) (range_with_len 0 outputs))

-- the flips of the cubes, one cube after the other
unfoldable pub flips_of_cubes : ℕ → ℕ → List Cube → List Shape
flips_of_cubes inputs outputs [] = []
flips_of_cubes inputs outputs (cube ∷ rest) = flips_of_cube inputs outputs cube ++ flips_of_cubes inputs outputs rest

-- lines x0, x1, .. for the inputs, which are garbage at the end, then y0, y1, .. for the outputs, which hold 0
abbrev pub esop_lines : ℕ → ℕ → Cascade
esop_lines inputs outputs =
    record (fresh (numbered 120 inputs ++ numbered 121 outputs)) {
      constants = replicate inputs Input ++ replicate outputs Zero;
      garbage = replicate inputs true ++ replicate outputs false;
    }

-- the circuit of a list
abbrev pub cascade_of : Esop → Cascade
cascade_of e = record (esop_lines e.inputs e.outputs) { gates = flips_of_cubes e.inputs e.outputs e.cubes }

-- how many flips it has
abbrev pub flip_count : Esop → ℕ
flip_count e = length (cascade_of e).gates

-- the word with the bits changed that a set holds, from bit j on
unfoldable pub xor_from : ℕ → List Bool → ℕ → List Bool
xor_from j [] set = []
xor_from j (bit ∷ rest) set = xor bit (has set j) ∷ xor_from (j + 1) rest set

abbrev pub xor_set : List Bool → ℕ → List Bool
xor_set word set = xor_from 0 word set
