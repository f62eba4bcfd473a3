use Rattle.std.proofs.Common.{arith}
use Rattle.rv_templ.proofs.PairSteps.{lone_hit, lone_miss, lone_end}
use Rattle.rv_gate.specs.declared.word.TheConstants.{MOST_LINES}
use Rattle.rv_templ.proofs.inside.Incidences.{lone_none}
use Rattle.rv_templ.proofs.joining.lone.Goals as goal

pub returns-then-set-ne1-clause-is : goal.returns-then-set-ne1-clause-is
returns-then-set-ne1-clause-is c = lone_none c.args.set MOST_LINES c.if-set-ne1.true

pub returns-then-set-line-clause-is : goal.returns-then-set-line-clause-is
returns-then-set-line-clause-is c = lone_hit c.args.set c.loop-line.line _ (omega arith) c.loop-line.invariant.0 c.if-set-line.true c.loop-line.invariant.1

pub loop-line-preserved : goal.loop-line-preserved
loop-line-preserved c = (omega arith, lone_miss c.args.set c.loop-line.line _ (omega arith) c.loop-line.invariant.0 c.if-set-line.false c.loop-line.invariant.1)

pub returns-clause-is : goal.returns-clause-is
returns-clause-is c = lone_end c.args.set c.loop-line.line (omega (arith, c.loop-line-test.false)) c.loop-line.invariant.1
