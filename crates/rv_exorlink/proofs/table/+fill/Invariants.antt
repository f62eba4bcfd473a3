use Rattle.std.proofs.Common.{◌-◌}
use Rattle.rv_exorlink.proofs.table.+fill.Given as goal

abbrev pub decreases-fill : goal.decreases-fill
decreases-fill l = l.inputs - l.from
