use Rattle.std.proofs.Common.{◌-◌}
use Rattle.rv_exorlink.proofs.free.+outs_from.Given as goal

abbrev pub decreases-outs_from : goal.decreases-outs_from
decreases-outs_from l = l.inputs - l.from
