-- One cube for two.
use Rattle.std.specs.Prelude.{ℕ, ◌≡◌, Bool, List, length, bit_xor}
use Rattle.rv_pla.specs.Cube.{IsCube}
use Rattle.rv_pla.specs.declared.cube.Cube.{Cube}
use Rattle.rv_cube.specs.Esop.{share}

-- at each word of n inputs the sum gives what one of the two gives and not both
pub record IsSum (n : ℕ) (x y sum : Cube) : Type 0 where
  pub value : (word : List Bool) → length word ≡ n → share sum word ≡ bit_xor (share x word) (share y word)
  pub is_cube : (outputs : ℕ) → IsCube n outputs x → IsCube n outputs y → IsCube n outputs sum

-- a step of a way from x to y: x becomes next
pub record IsStep (n : ℕ) (x y sum next : Cube) : Type 0 where
  pub is_sum : IsSum n x next sum
  pub is_cube : (outputs : ℕ) → IsCube n outputs x → IsCube n outputs y → IsCube n outputs next
