use Rattle.std.proofs.Common.{refl}
use Rattle.rv_links.proofs.inside.BlockLemmas.{held_here, held_more, wider_is}
use Rattle.rv_links.proofs.blocks.widen.Goals as goal

pub returns-then-block-blocks-clause-here : goal.returns-then-block-blocks-clause-here
returns-then-block-blocks-clause-here c =
    held_here c.args.blocks.now c.args.block c.args.gate _ _ c.if-block-blocks.true refl (wider_is _ c.args.gate _ _ c.read_by.ensures c.targets.ensures)

pub returns-then-block-blocks-clause-others : goal.returns-then-block-blocks-clause-others
returns-then-block-blocks-clause-others c i g =
    held_more c.args.blocks.now c.args.block i c.args.gate g _ _ c.if-block-blocks.true refl (wider_is _ c.args.gate _ _ c.read_by.ensures c.targets.ensures)
