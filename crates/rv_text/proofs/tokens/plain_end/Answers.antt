use Rattle.std.proofs.Common.{arith, sym, ◌∙◌}
use Rattle.rv_text.proofs.TokenSteps.{goes_on_plain}
use Rattle.rv_text.proofs.tokens.plain_end.Goals as goal

pub loop-i-preserved : goal.loop-i-preserved
loop-i-preserved c = record {
  order = omega arith;
  within = omega arith;
  same = λ quotes. goes_on_plain quotes _ _ _ _ _ c.loop-i.invariant.order c.loop-i-test.true (sym c.is_blank.ensures ∙ c.if-not-is_blank.true) c.if-line-i-ne35.true (c.loop-i.invariant.same quotes);
}
