use Rattle.std.proofs.Common.{arith}
use Rattle.rv_check.proofs.inside.Shifts.{width_is}
use Rattle.rv_check.proofs.dense.width.Goals as goal

pub returns : goal.returns
returns c = width_is c.args.number _ c.ranges.number.fits (omega arith)
