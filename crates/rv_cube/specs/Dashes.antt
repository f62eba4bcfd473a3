-- Inputs of which no cube says anything.
use Rattle.std.specs.Prelude.{ℕ, ◌≡◌, List, All}
use Rattle.rv_pla.specs.Cube.{Dash, symbol}
use Rattle.rv_pla.specs.declared.cube.Cube.{Cube}

-- the input is `-` in every cube
abbrev pub IsDashed : ℕ → List Cube → Type 0
IsDashed input cubes = All (λ cube. symbol cube input ≡ Dash) cubes
