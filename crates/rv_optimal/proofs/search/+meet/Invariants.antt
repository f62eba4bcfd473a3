use Rattle.rv_optimal.proofs.search.+meet.Given as goal

abbrev pub decreases-meet : goal.decreases-meet
decreases-meet l = l.depths.left
