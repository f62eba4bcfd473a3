-- What is known of a reduced list.
use Rattle.std.specs.Prelude.{ℕ, ◌≤◌, ◌≡◌, Bool, List, length, All}
use Rattle.rv_pla.specs.declared.cube.Cube.{Cube}
use Rattle.rv_pla.specs.Pla.{TwoLevel}
use Rattle.rv_cube.specs.Dashes.{IsDashed}
use Rattle.rv_cube.specs.Esop.{esop_value, IsTerm}
use Rattle.rv_cube.specs.Reduction.{IsSettled}
use Rattle.rv_cube.specs.ReductionFor.{IsRight, IsSettledFor}
use Rattle.rv_cube.specs.Settled.{IsIrreducible, IsIrreducibleFor}

pub record AreReduced (n : ℕ) (old new : List Cube) : Type 0 where
  pub kept : (word : List Bool) → length word ≡ n → esop_value new word ≡ esop_value old word
  pub dashes : (input : ℕ) → IsDashed input old → IsDashed input new
  pub valid : (outputs : ℕ) → All (IsTerm n outputs) old → All (IsTerm n outputs) new
  pub no_more : length new ≤ length old
  pub settled : IsSettled n new
  pub irreducible : IsIrreducible n new

-- for a PLA
pub record AreReducedFor (pla : TwoLevel) (old new : List Cube) : Type 0 where
  pub right : IsRight pla old → IsRight pla new
  pub valid : (outputs : ℕ) → All (IsTerm pla.inputs outputs) old → All (IsTerm pla.inputs outputs) new
  pub no_more : length new ≤ length old
  pub settled : IsSettledFor pla new
  pub irreducible : IsIrreducibleFor pla new
