use Rattle.std.proofs.Common.{length, take}
use Rattle.std.specs.Prelude.{All}
use Rattle.rv_compute.specs.Points.{HasFewer}
use Rattle.rv_compute.proofs.points.is_on_more.Given as goal

abbrev pub invariant-loop-point : goal.invariant-loop-point
invariant-loop-point l = All (HasFewer (length l.new.names)) (take l.point-index l.points)
