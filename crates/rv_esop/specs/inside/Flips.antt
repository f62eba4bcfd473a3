-- The flips of a cube, output by output.
use Rattle.std.specs.Prelude.{ℕ, ◌≡◌, zero, suc, ◌+◌, ◌<◌, ◌^◌, true, false, bit_xor, List, [], ◌∷◌, if◌then◌else◌}
use Rattle.rv_gate.specs.Word.{has}
use Rattle.rv_gate.specs.declared.gate.Shape.{Shape}
use Rattle.rv_pla.specs.declared.cube.Cube.{Cube}
use Rattle.rv_cube.specs.Flip.{flip_of}

-- those at m outputs from j on
unfoldable pub flips_from : ℕ → Cube → ℕ → ℕ → List Shape
flips_from inputs cube j zero = []
flips_from inputs cube j (suc m) =
    if has cube.outs j then flip_of cube (inputs + j) ∷ flips_from inputs cube (j + 1) m else flips_from inputs cube
    (j + 1) m

-- an output of a set, and the set without it
pub record IsLowestOf (outputs set output rest : ℕ) : Type 0 where
  pub within : output < outputs
  pub there : has set output ≡ true
  pub gone : has rest output ≡ false
  pub fewer : rest < set
  pub sum : bit_xor (2 ^ output) rest ≡ set
