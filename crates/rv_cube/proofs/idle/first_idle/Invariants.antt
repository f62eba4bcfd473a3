use Rattle.std.proofs.Common.{◌<◌, ℕ}
use Rattle.std.specs.Prelude.{All}
use Rattle.rv_cube.specs.Reduction.{at}
use Rattle.rv_cube.specs.inside.Idle.{HasNoIdle}
use Rattle.rv_cube.proofs.idle.first_idle.Given as goal

abbrev pub invariant-loop-a : goal.invariant-loop-a
invariant-loop-a l = record {
  vain : All (HasNoIdle l.pla) l.vain.items;
  before : (i : ℕ) → i < l.a → HasNoIdle l.pla (at l.slots.cubes i);
}
