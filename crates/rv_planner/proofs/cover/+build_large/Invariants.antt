use Rattle.std.proofs.Common.{length}
use Rattle.rv_planner.proofs.cover.+build_large.Given as goal

abbrev pub decreases-build_large : goal.decreases-build_large
decreases-build_large l = length l.operands.now
