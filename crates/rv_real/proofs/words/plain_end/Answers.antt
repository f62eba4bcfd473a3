use Rattle.std.proofs.Common.{arith, inl, inr}
use Rattle.std.proofs.lemmas.Bool.{cases_eq}
use Rattle.rv_real.proofs.PlainWords.{goes_on}
use Rattle.rv_real.proofs.words.plain_end.Goals as goal

pub loop-i-preserved : goal.loop-i-preserved
loop-i-preserved c =
    let so_far = c.loop-i.invariant in
    record {
      order = omega (arith, so_far.order);
      within = omega arith;
      same = goes_on c.args.line.now c.args.start c.loop-i.i so_far.order c.loop-i-test.true c.if-line-i-gt35.true so_far.same;
      first = λ lt. elim (cases_eq c.args.start c.loop-i.i) [
        | inl here ↦ rw here c.if-line-i-gt35.true
        | inr other ↦ so_far.first (omega (arith, so_far.order))
      ];
    }
