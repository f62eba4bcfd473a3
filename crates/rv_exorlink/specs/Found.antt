-- What a search finds for a PLA.
use Rattle.std.specs.Prelude.{◌≡◌, List, All}
use Rattle.rv_pla.specs.declared.cube.Cube.{Cube}
use Rattle.rv_pla.specs.Pla.{TwoLevel}
use Rattle.rv_cube.specs.Esop.{Esop, IsTerm}
use Rattle.rv_cube.specs.First.{first_of}
use Rattle.rv_cube.specs.ReductionFor.{IsRight, reduced_for}
use Rattle.rv_exorlink.specs.declared.goal.Goal.{Goal}
use Rattle.rv_exorlink.specs.Weight.{IsNoWorse}

-- a list is right for the PLA and no worse than another
pub record MayReplace (goal : Goal) (pla : TwoLevel) (old new : List Cube) : Type 0 where
  pub right : IsRight pla new
  pub terms : All (IsTerm pla.inputs pla.outputs) new
  pub no_worse : IsNoWorse goal old new

-- the list has the PLA's sizes, its value the bit of each entry that isn't free, and it is no worse than the reduced
-- list
pub record IsFound (goal : Goal) (pla : TwoLevel) (list : Esop) : Type 0 where
  pub inputs : list.inputs ≡ pla.inputs
  pub outputs : list.outputs ≡ pla.outputs
  pub right : IsRight pla list.cubes
  pub no_worse : IsNoWorse goal (reduced_for pla (first_of pla).cubes) list.cubes
