use Rattle.std.proofs.Common.{◌+◌, ◌*◌, length}
use Rattle.rv_ends.proofs.end.+ends.Given as goal

abbrev pub decreases-end_sum : goal.decreases-end_sum
decreases-end_sum l = 2 * length l.paths.now

abbrev pub decreases-half : goal.decreases-half
decreases-half l = 2 * length l.paths.now + 1
