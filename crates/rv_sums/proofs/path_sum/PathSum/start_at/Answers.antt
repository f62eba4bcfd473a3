use Rattle.std.proofs.Common.{length, refl, ap, ◌∙◌, arith}
use Rattle.rv_sums.specs.inside.State.{word_at}
use Rattle.rv_sums.proofs.inside.States.{take_whole, word_more}
use Rattle.rv_sums.proofs.path_sum.PathSum.start_at.Goals as goal

pub loop-line-init : goal.loop-line-init
loop-line-init c = record {
  count = ap length c.new-sums.ensures.items;
  ends = λ x v. ap (λ sums. word_at sums x v) c.new-sums.ensures.items;
}

pub loop-line-preserved : goal.loop-line-preserved
loop-line-preserved c = record {
  count = omega (arith, c.in_ok-push.ensures.len);
  ends = λ x v.
      word_more c.loop-line.sums.items c.push.new.self.items c.in_ok-sum.sum x v c.args.word c.loop-line.line (omega (arith, c.len-line-end.ensures))
      c.in_ok-push.ensures.items (c.loop-line.invariant.ends x v)
      (c.in_ok-sum.ensures x v ∙ c.bit.ensures);
}

pub returns : goal.returns
returns c = record {
  lines_are = omega (arith, c.len-line-end.ensures);
  ends = λ x v. c.loop-line.invariant.ends x v ∙ take_whole c.args.word c.loop-line.line (omega (arith, c.len-line-end.ensures));
  phases = c.new.ensures;
  scale = refl;
}
