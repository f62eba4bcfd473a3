use Rattle.std.proofs.Common.{length}
use Rattle.rv_mct.proofs.flips.+down_up.Given as goal

abbrev pub decreases-down_up : goal.decreases-down_up
decreases-down_up l = length l.more.now
