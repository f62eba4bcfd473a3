use Rattle.rv_planner.proofs.cover.+build.Given as goal

abbrev pub decreases-build : goal.decreases-build
decreases-build l = l.count
