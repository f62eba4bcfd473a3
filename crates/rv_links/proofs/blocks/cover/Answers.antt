use Rattle.std.proofs.Common.{arith}
use Rattle.rv_links.proofs.inside.LinkedLemmas.{gate_read}
use Rattle.rv_links.proofs.inside.BlockLemmas.{cover_more}
use Rattle.rv_links.proofs.blocks.cover.Goals as goal

pub loop-id-preserved : goal.loop-id-preserved
loop-id-preserved c =
    cover_more c.loop-id.blocks.len c.args.size c.loop-id.id c.loop-id.blocks.items c.deref_mut.result.now c.widen.new.blocks c.args.gates.now c.index-gates-id.result
    c.deref_mut.ensures.value c.widen.ensures.long (omega arith) (gate_read _ _ _ c.loop-id-test.true c.index-gates-id.is) c.widen.ensures.here c.widen.ensures.others c.loop-id.invariant
