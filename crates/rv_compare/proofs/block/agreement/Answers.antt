use Rattle.std.proofs.Common.{arith}
use Rattle.rv_many.specs.Column.{row_bit}
use Rattle.rv_compare.proofs.inside.Rows.{agree_all}
use Rattle.rv_compare.proofs.block.agreement.Goals as goal

pub returns : goal.returns
returns c j lt = agree_all c.args.a.now c.args.b.now c.loop-line.line j (row_bit c.loop-line.same j) c.requires (omega arith) (c.loop-line.invariant j lt)
