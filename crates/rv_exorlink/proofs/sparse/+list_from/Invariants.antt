use Rattle.std.proofs.Common.{◌-◌}
use Rattle.rv_exorlink.proofs.sparse.+list_from.Given as goal

abbrev pub decreases-list_from : goal.decreases-list_from
decreases-list_from l = 16 - l.input
