use Rattle.std.proofs.Common.{◌≡◌, ◌++◌, take}
use Rattle.rv_ladder.specs.Ladder.{zeros}
use Rattle.rv_ladder.proofs.flip.add_zeros.Given as goal

abbrev pub invariant-loop-control : goal.invariant-loop-control
invariant-loop-control l = l.ops.items ≡ l.initial.ops.items ++ zeros (take l.control-index l.controls)
