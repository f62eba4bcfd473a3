use Rattle.std.proofs.Common.{◌-◌, length}
use Rattle.rv_real.proofs.inside.OperandLemmas.{IsReadingOperands}
use Rattle.rv_real.proofs.operands.read_operands.Given as goal

abbrev pub invariant-loop-found : goal.invariant-loop-found
invariant-loop-found l = IsReadingOperands l.names l.controls l.line l.from l.at l.kept

abbrev pub decreases-loop-found : goal.decreases-loop-found
decreases-loop-found l = length l.line - l.at
