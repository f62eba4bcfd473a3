use Rattle.std.proofs.Common.{ℕ, List, take}
use Rattle.rv_route.specs.Moves.{swapped}
use Rattle.rv_route.specs.inside.Standing.{Stands, swaps_by}
use Rattle.rv_route.proofs.gathering.follow.Given as goal

abbrev pub invariant-loop-a : goal.invariant-loop-a
invariant-loop-a l = (row : List ℕ) → Stands row l.fn.places → Stands (swapped (swaps_by (take l.a-index l.moves)) row) l.places
