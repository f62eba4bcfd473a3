use Rattle.std.proofs.Common.{length, take}
use Rattle.std.specs.Prelude.{All}
use Rattle.rv_realize.specs.Realized.{HasFewer}
use Rattle.rv_realize.proofs.points.is_on_more.Given as goal

abbrev pub invariant-loop-point : goal.invariant-loop-point
invariant-loop-point l = All (HasFewer (length l.new.names)) (take l.point-index l.points)
