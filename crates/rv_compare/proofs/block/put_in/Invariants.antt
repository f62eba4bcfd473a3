use Rattle.rv_compare.proofs.inside.Rows.{ArePut}
use Rattle.rv_compare.proofs.block.put_in.Given as goal

abbrev pub invariant-loop-line : goal.invariant-loop-line
invariant-loop-line l = ArePut l.marks l.block l.rows l.line l.bit
