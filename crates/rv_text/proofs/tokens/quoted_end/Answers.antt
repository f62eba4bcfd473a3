use Rattle.std.proofs.Common.{arith}
use Rattle.rv_text.proofs.TokenSteps.{goes_on_quoted}
use Rattle.rv_text.proofs.tokens.quoted_end.Goals as goal

pub loop-i-preserved : goal.loop-i-preserved
loop-i-preserved c = record {
  order = omega arith;
  within = omega arith;
  same = λ blanks. goes_on_quoted blanks _ _ _ _ c.loop-i.invariant.order c.loop-i-test.true c.if-line-i-ne34.true (c.loop-i.invariant.same blanks);
}
