use Rattle.std.proofs.Common.{◌≡◌, map}
use Rattle.std.specs.List.{range_with_len}
use Rattle.rv_cube.specs.inside.Idle.{free_at}
use Rattle.rv_cube.proofs.idle.free_sets.Given as goal

abbrev pub invariant-loop-input : goal.invariant-loop-input
invariant-loop-input l = l.sets.items ≡ map (free_at l.pla) (range_with_len 0 l.input)
