use Rattle.std.proofs.Common.{length}
use Rattle.rv_ladder.proofs.flip.+add_down.Given as goal

abbrev pub decreases-add_down : goal.decreases-add_down
decreases-add_down l = length l.more.now
