use Rattle.std.proofs.Common.{arith}
use Rattle.rv_gate.proofs.LowestLine.{lowest_line}
use Rattle.rv_mct.proofs.Walks.{rising_lowest, rising_none}
use Rattle.rv_mct.proofs.lines.first_line.Goals as goal

pub returns-then-lines-eq0-clause-none : goal.returns-then-lines-eq0-clause-none
returns-then-lines-eq0-clause-none c = rising_none c.args.lines c.if-lines-eq0.true

pub returns-clause-some : goal.returns-clause-some
returns-clause-some c = rising_lowest _ _ _ (lowest_line c.args.lines (omega arith) (omega arith))

pub returns-clause-fewer : goal.returns-clause-fewer
returns-clause-fewer c = (lowest_line c.args.lines (omega arith) (omega arith)).fewer
