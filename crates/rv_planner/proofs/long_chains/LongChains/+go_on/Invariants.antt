use Rattle.rv_planner.proofs.long_chains.LongChains.+go_on.Given as goal

abbrev pub decreases-go_on : goal.decreases-go_on
decreases-go_on l = l.left
