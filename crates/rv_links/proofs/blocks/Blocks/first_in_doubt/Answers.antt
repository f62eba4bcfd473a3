use Rattle.std.proofs.Common.{arith}
use Rattle.rv_links.proofs.inside.BlockLemmas.{passed_more}
use Rattle.rv_links.proofs.blocks.Blocks.first_in_doubt.Goals as goal

pub loop-at-preserved-then-end-at : goal.loop-at-preserved-then-end-at
loop-at-preserved-then-end-at c = record {
  late = omega arith;
  free = passed_more c.args.gates.now c.args.order.now.ids c.args.gate c.args.from c.loop-at.at c.passed-end.result c.loop-at.invariant.free
      (λ x on le lt. c.passed-end.ensures.free x _ le lt (c.requires.covered x on));
}
