-- What the gates of the synthesis are to the permutation.
use Rattle.std.specs.Prelude.{ℕ, ◌-◌, ◌*◌, ◌^◌, List}
use Rattle.rv_gate.specs.declared.gate.Shape.{Shape}
use Rattle.rv_perm.specs.Perm.{Computes}
use Rattle.rv_dbs.specs.Runs.{AreFlips}
use Rattle.rv_dbs.specs.Steps.{AreStepped}

pub record IsSingles (n : ℕ) (images : List ℕ) (gates : List Shape) : Type 0 where
  pub stepped : AreStepped n (n - 1) images gates
  pub computes : Computes n gates images
  pub flips : AreFlips n (2 * n - 1) ((2 * n - 1) * 2 ^ (n - 1)) gates
