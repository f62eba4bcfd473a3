use Rattle.std.proofs.Common.{◌≡◌, map, take}
use Rattle.rv_cmd.specs.Commands.Realize.{row_at}
use Rattle.rv_cmd.proofs.commands.realize.rows_of.Given as goal

abbrev pub invariant-loop-point : goal.invariant-loop-point
invariant-loop-point l = l.rows.items ≡ map row_at (take l.point-index l.points)
