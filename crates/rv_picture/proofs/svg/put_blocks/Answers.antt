use Rattle.rv_io.proofs.Adding.{adds_then, adds_as}
use Rattle.rv_picture.specs.Svg.{block_lines}
use Rattle.rv_picture.proofs.Texts.{blocks_more}
use Rattle.rv_picture.proofs.svg.put_blocks.Goals as goal

pub loop-block-preserved : goal.loop-block-preserved
loop-block-preserved g c =
    adds_as (blocks_more (block_lines g.G.Drawn.draws g.G.Titled.title c.args.per_block c.args.lines.now c.args.gates.now) c.loop-block.block) (adds_then c.loop-block.invariant c.put_block.ensures)
