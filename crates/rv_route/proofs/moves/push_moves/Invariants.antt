use Rattle.std.proofs.Common.{◌≡◌, ◌++◌, map, take}
use Rattle.rv_route.specs.Moves.{neighbours}
use Rattle.rv_route.specs.inside.Standing.{swaps_by}
use Rattle.rv_route.proofs.moves.push_moves.Given as goal

abbrev pub invariant-loop-a : goal.invariant-loop-a
invariant-loop-a l = l.gates.items ≡ l.fn.gates.items ++ map neighbours (swaps_by (take l.a-index l.moves))
