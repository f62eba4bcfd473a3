use Rattle.std.proofs.Common.{arith}
use Rattle.rv_embed.proofs.ImageLemmas.{images_written}
use Rattle.rv_embed.proofs.images.images_between.Goals as goal

pub returns : goal.returns
returns c =
    images_written c.args.count c.args.from.now c.args.to.now c.loop-place.images.items c.requires.from_count c.requires.from_once c.loop-place.invariant.len
    (λ k h. c.loop-place.invariant.placed k (omega arith))
