use Rattle.std.proofs.Common.{◌+◌, ◌*◌}
use Rattle.rv_schedule.proofs.engine.Engine.+making.Given as goal

abbrev pub decreases-make : goal.decreases-make
decreases-make l = 2 * l.depth

abbrev pub decreases-make_needs : goal.decreases-make_needs
decreases-make_needs l = 2 * l.depth + 1
