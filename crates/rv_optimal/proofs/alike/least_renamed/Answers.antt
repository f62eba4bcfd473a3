use Rattle.rv_optimal.specs.inside.Alike.{walk}
use Rattle.rv_optimal.proofs.inside.Walking.{walk_more, walk_all}
use Rattle.rv_optimal.proofs.alike.least_renamed.Goals as goal

pub loop-line-preserved : goal.loop-line-preserved
unfolding walk
loop-line-preserved c =
    walk_more c.args.key c.loop-line.least c.loop-line.renamed c.loop-line.line-index _ _ c.loop-line-test.true c.swapped-renamed.ensures c.min-least.ensures c.loop-line.invariant

pub returns : goal.returns
unfolding walk
returns c = walk_all c.args.key c.loop-line.least c.loop-line.renamed c.loop-line.line-index c.loop-line-test.false c.loop-line.invariant
