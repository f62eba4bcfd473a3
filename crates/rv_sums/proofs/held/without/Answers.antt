use Rattle.std.proofs.Common.{ap, arith, length}
use Rattle.rv_gate.specs.Word.{bit_of}
use Rattle.rv_sums.proofs.inside.Begins.{weaker_more, weaker_none}
use Rattle.rv_sums.proofs.held.without.Goals as goal

pub loop-line-init : goal.loop-line-init
loop-line-init c = record {
  count = ap length c.new-made.ensures.items;
  weaker = weaker_none c.args.marks.now c.new-made.result.items c.new-made.ensures.items;
}

pub loop-line-preserved : goal.loop-line-preserved
loop-line-preserved c = record {
  count = omega (arith, c.in_ok-push.ensures.len, c.loop-line.invariant.count);
  weaker =
      weaker_more c.args.marks.now c.loop-line.made.items c.push.new.self.items c.loop-line.line c.mark_of-mark.result c.unless-next.result
      c.mark_of-mark.ensures c.loop-line.invariant.count c.in_ok-push.ensures.items c.unless-next.ensures
      c.loop-line.invariant.weaker;
}

pub returns : goal.returns
returns c word h line = c.loop-line.invariant.weaker line (bit_of word line) (h line)
