use Rattle.std.proofs.Common.{length, refl, ap, ◌∙◌, arith}
use Rattle.rv_sums.specs.inside.State.{word_at}
use Rattle.rv_sums.proofs.inside.States.{take_whole, word_at-more}
use Rattle.rv_sums.proofs.path_sum.PathSum.start.Goals as goal

pub loop-line-init : goal.loop-line-init
loop-line-init c = record {
  count = ap length c.new-sums.ensures.items;
  ends = λ x v m le. ap (λ sums. word_at sums x v) c.new-sums.ensures.items;
}

pub loop-line-preserved : goal.loop-line-preserved
loop-line-preserved c = record {
  count = omega (arith, c.in_ok-push.ensures.len);
  ends = λ x v m le.
      word_at-more c.loop-line.sums.items c.push.new.self.items c.in_ok-sum.sum x v c.loop-line.line (omega arith)
      c.in_ok-push.ensures.items (c.loop-line.invariant.ends x v m (omega arith))
      (c.in_ok-sum.ensures x v m);
}

pub returns : goal.returns
returns c = record {
  lines_are = omega arith;
  ends = λ x v m len. c.loop-line.invariant.ends x v m (omega arith) ∙ take_whole x c.loop-line.line (omega arith);
  phases = c.new.ensures;
  scale = refl;
}
