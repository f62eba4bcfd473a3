use Rattle.std.proofs.Common.{rules}
use Rattle.rv_cost.proofs.inside.HCount.{count_h-count_by}
use Rattle.rv_cost.proofs.network.h_count.Goals as goal

pub returns : goal.returns
returns c = rw count_h-count_by (search rules)
