use Rattle.std.proofs.Common.{◌≡◌, map, take}
use Rattle.rv_cmd.specs.Commands.Compute.{row_at}
use Rattle.rv_cmd.proofs.commands.compute.rows_of.Given as goal

abbrev pub invariant-loop-point : goal.invariant-loop-point
invariant-loop-point l = l.rows.items ≡ map (row_at l.effort) (take l.point-index l.points)
