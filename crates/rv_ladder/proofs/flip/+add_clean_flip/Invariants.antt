use Rattle.std.proofs.Common.{length}
use Rattle.rv_ladder.proofs.flip.+add_clean_flip.Given as goal

abbrev pub decreases-add_clean_flip : goal.decreases-add_clean_flip
decreases-add_clean_flip l = length l.more.now
