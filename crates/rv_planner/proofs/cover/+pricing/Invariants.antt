use Rattle.std.proofs.Common.{◌+◌, ◌*◌}
use Rattle.rv_planner.proofs.cover.+pricing.Given as goal

abbrev pub decreases-price : goal.decreases-price
decreases-price l = 3 * l.count

abbrev pub decreases-best_split : goal.decreases-best_split
decreases-best_split l = 3 * l.others + 2

abbrev pub decreases-split_by : goal.decreases-split_by
decreases-split_by l = 3 * l.others + 1
