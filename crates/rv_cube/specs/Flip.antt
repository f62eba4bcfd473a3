-- Cubes as the controls of flips.
use Rattle.std.specs.Prelude.{ℕ}
use Rattle.rv_gate.specs.declared.gate.Shape.{Shape}
use Rattle.rv_gate.specs.declared.gate.Shape.TheVariants.{Flip}
use Rattle.rv_pla.specs.declared.cube.Cube.{Cube}

-- the flip of the target whose positive controls are the ones of the cube, and whose negative ones are its zeros
abbrev pub flip_of : Cube → ℕ → Shape
flip_of cube target = Flip cube.care cube.want target
